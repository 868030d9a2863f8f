use Rattle.std.proofs.Common.{MatchBool, arith, rules}
use Rattle.least.specs.internal.BranchAndBound.{searched_query}
use Rattle.least.proofs.LexicalOrder.{preferred_told}
use Rattle.least.proofs.UpdatedIncumbent.{IsBetter, IsNoBetter, better_told, better_replaces, worse_keeps}
use Rattle.least.proofs.branch_and_bound.BranchAndBound.update_incumbent.Goals as goal
use Rattle.least.proofs.branch_and_bound.BranchAndBound.update_incumbent.Goals.{After-is_none_or}

-- what the test tells of the chain and the incumbent
told : (c : After-is_none_or) → MatchBool c.is_none_or.result (IsBetter c.in-Ok.regret c.as_slice-list.result.now c.args.self.now.incumbent) (IsNoBetter c.in-Ok.regret c.as_slice-list.result.now c.args.self.now.incumbent)
told c =
    better_told c.in-Ok.regret c.as_slice-list.result.now c.as_ref-held.result c.args.self.now.incumbent c.as_ref-held.ensures.value c.is_none_or.result _ c.is_none_or.ensures (λ b post. search (rules, preferred_told))

pub returns-then-is_none_or-clause-searched : goal.returns-then-is_none_or-clause-searched
returns-then-is_none_or-clause-searched c =
    let s = c.args.self.now in
    let p = c.as_slice-list.result.now in
    let better = rw c.if-is_none_or.true at (told (goal.at.returns-then-is_none_or-clause-searched c).After-is_none_or) in
    let list = rw c.unwrap-list.ensures at c.try_from.ensures in
    rw (← c.as_slice-list.ensures.value) (better_replaces (searched_query s) p c.in-Ok.regret c.in-Ok.ensures.0 c.in-Ok.ensures.1 s.incumbent c.requires better _ list.0 (omega arith))

pub returns-else-is_none_or-clause-searched : goal.returns-else-is_none_or-clause-searched
returns-else-is_none_or-clause-searched c =
    let s = c.args.self.now in
    let p = c.as_slice-list.result.now in
    let worse = rw c.if-is_none_or.false at (told (goal.at.returns-else-is_none_or-clause-searched c).After-is_none_or) in
    rw (← c.as_slice-list.ensures.value) (worse_keeps (searched_query s) p c.in-Ok.regret c.in-Ok.ensures.0 c.in-Ok.ensures.1 s.incumbent c.requires worse)
