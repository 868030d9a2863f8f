use Rattle.std.proofs.Common.{arith, rules}
use Rattle.least.proofs.SearchedParts.{searched_of}
use Rattle.least.proofs.ExploredLegs.{depth_small, only_itself, stuck, to_small, number_small, sum_small, ready_deeper, searched_deeper, only_incumbent_again, explored_start, explored_again, explored_end}
use Rattle.least.proofs.branch_and_bound.BranchAndBound.+explore.Goals as goal

pub explore-returns-then-here-self-clause-searched : goal.explore-returns-then-here-self-clause-searched
explore-returns-then-here-self-clause-searched t c = searched_of c.update_incumbent.ensures.searched (only_itself c.requires c.if-here-self.true)

pub explore-loop-k-init : goal.explore-loop-k-init
explore-loop-k-init t c = explored_start c.requires _ (search rules)

pub explore-loop-k-preserved : goal.explore-loop-k-preserved
explore-loop-k-preserved t c = explored_again c.requires c.loop-k.invariant c.in-Some.k _ c.in-Some.ensures.steps c.explore_leg.new.self c.explore_leg.ensures.searched c.explore_leg.ensures.only_incumbent

pub explore-returns-clause-searched : goal.explore-returns-clause-searched
explore-returns-clause-searched t c = explored_end c.requires c.loop-k.invariant c.if-here-self.false c.in-None.ensures.steps.0

pub explore_leg-returns-in_default-clause-searched : goal.explore_leg-returns-in_default-clause-searched
explore_leg-returns-in_default-clause-searched t c = stuck c.requires c.args.k c.in_default.ensures

pub explore_leg-push-requires : goal.explore_leg-push-requires
explore_leg-push-requires t c = let d = depth_small c.requires in search rules

pub explore_leg-bounds-self-to : goal.explore_leg-bounds-self-to
explore_leg-bounds-self-to t c = to_small c.requires c.args.k c.in-Some.leg c.in-Some.ensures

pub explore_leg-explore-requires : goal.explore_leg-explore-requires
explore_leg-explore-requires t c =
    let d = depth_small c.requires in
    (omega (arith, c.push.ensures.len), ready_deeper c.requires c.args.k c.in-Some.leg c.in-Some.ensures c.push.new.self c.push.ensures.items)

pub explore_leg-bounds-self-to-2 : goal.explore_leg-bounds-self-to-2
explore_leg-bounds-self-to-2 t c = to_small c.requires c.args.k c.in-Some.leg c.in-Some.ensures

pub explore_leg-bounds-self-number : goal.explore_leg-bounds-self-number
explore_leg-bounds-self-number t c = number_small c.requires c.args.k c.in-Some.leg c.in-Some.ensures

pub explore_leg-overflow_add-self : goal.explore_leg-overflow_add-self
explore_leg-overflow_add-self t c = let small = sum_small c.requires c.args.k c.in-Some.leg c.in-Some.ensures in omega arith

pub explore_leg-bounds-self-number-2 : goal.explore_leg-bounds-self-number-2
explore_leg-bounds-self-number-2 t c = number_small c.requires c.args.k c.in-Some.leg c.in-Some.ensures

pub explore_leg-returns-clause-searched : goal.explore_leg-returns-clause-searched
explore_leg-returns-clause-searched t c = searched_deeper c.requires c.args.k c.in-Some.leg c.in-Some.ensures c.push.new.self c.push.ensures.items c.explore.ensures.searched

pub explore_leg-returns-clause-only_incumbent : goal.explore_leg-returns-clause-only_incumbent
explore_leg-returns-clause-only_incumbent t c =
    only_incumbent_again c.requires c.args.k c.in-Some.leg c.in-Some.ensures c.push.new.self c.push.ensures.items c.explore.new.self c.explore.ensures.only_incumbent c.pop.new.self c.pop.ensures.rest
