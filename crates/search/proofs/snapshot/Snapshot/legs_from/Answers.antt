use Rattle.search.proofs.LegsLeaving.{leaving_first}
use Rattle.search.proofs.snapshot.Snapshot.legs_from.Goals as goal

pub returns : goal.returns
returns c = leaving_first _ _ 0 c.first_leg.result c.first_leg.ensures
