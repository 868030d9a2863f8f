use Rattle.floor.proofs.FloorBelowRegret.{floor_is_below_every_regret, floor_is_never_negative, floor_is_unique}
use Rattle.floor.proofs.floors.floor.Goals as goal

pub returns-clause-below_every_regret : goal.returns-clause-below_every_regret
returns-clause-below_every_regret g c = floor_is_below_every_regret

pub returns-clause-never_negative : goal.returns-clause-never_negative
returns-clause-never_negative g c = floor_is_never_negative

pub returns-clause-unique : goal.returns-clause-unique
returns-clause-unique g c = floor_is_unique
