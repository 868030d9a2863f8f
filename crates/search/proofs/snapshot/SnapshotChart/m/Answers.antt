use Rattle.std.proofs.Common.{arith}
use Rattle.search.proofs.LegsLeaving.{snapshot_length}
use Rattle.search.proofs.snapshot.SnapshotChart.m.Goals as goal

pub returns : goal.returns
returns c = omega (arith, snapshot_length c.args.self.now)
