use Rattle.std.proofs.Common.{◌∙◌, sym, ap, subst, rules}
use Rattle.search.specs.LegsLeaving.{legs_left_from}
use Rattle.search.specs.internal.Index.{IsLeg}
use Rattle.search.specs.Snapshots.{snapshot_legs}
use Rattle.search.proofs.LegsLeaving.{left_from_unfolds}
use Rattle.search.proofs.legs_from.LegsFromIterator.next.Goals as goal

pub returns-clause-steps : goal.returns-clause-steps
returns-clause-steps c =
    let legs = snapshot_legs c.self.inside.snapshot.now in
    let there = subst (IsLeg legs) c.in_ok-k.was c.self.invariant in
    sym c.self.view_is ∙ ap (legs_left_from legs) c.in_ok-k.was ∙ left_from_unfolds legs c.in_ok-k.k c.next_leg-self-inside.result there c.next_leg-self-inside.ensures

pub returns-clause-goes : goal.returns-clause-goes
returns-clause-goes c = let steps = returns-clause-steps c in search rules
