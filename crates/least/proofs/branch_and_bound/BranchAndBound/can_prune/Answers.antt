use Rattle.least.proofs.PrunedChains.{bound_is_sound, floor_is_sound}
use Rattle.least.proofs.branch_and_bound.BranchAndBound.can_prune.Goals as goal

pub returns-in-Some-clause-sound : goal.returns-in-Some-clause-sound
returns-in-Some-clause-sound c = bound_is_sound c.args.self.now c.can_prune_by_pursuit.result c.can_prune_by_pursuit.ensures

pub returns-in-None-clause-sound : goal.returns-in-None-clause-sound
returns-in-None-clause-sound c is = floor_is_sound c.args.self.now (c.can_prune_by_floor.ensures.0 is)
