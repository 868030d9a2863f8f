use Rattle.std.proofs.Common.{arith}
use Rattle.search.proofs.LegsLeaving.{snapshot_first, no_leg_leaves}
use Rattle.search.proofs.snapshot.Snapshot.first_leg.Goals as goal

pub returns-then-fix-self : goal.returns-then-fix-self
returns-then-fix-self c = no_leg_leaves c.args.self.now c.args.fix (omega arith)

pub returns : goal.returns
returns c = snapshot_first c.args.self.now c.args.fix (omega arith)
