use Rattle.std.proofs.Common.{subst}
use Rattle.chart.specs.Floors.{IsFloor}
use Rattle.least.specs.internal.BranchAndBound.{searched_query}
use Rattle.least.proofs.PrunedChains.{floor_tells}
use Rattle.least.proofs.branch_and_bound.BranchAndBound.can_prune_by_floor.Goals as goal

-- the floor that is answered is that of the chain
pub returns-in-Ok : goal.returns-in-Ok
returns-in-Ok c =
    let s = c.args.self.now in
    let floor = subst (λ ks. IsFloor (searched_query s) ks c.in-Ok.floor) c.as_slice.ensures.value c.in-Ok.ensures.1 in
    floor_tells s c.in-Ok.floor c.can_prune_by.result floor c.can_prune_by.ensures
