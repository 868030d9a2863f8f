use Rattle.std.proofs.Common.{arith}
use Rattle.chart.proofs.RouteEnds.{route_leaves_fix}
use Rattle.search.specs.Snapshots.{snapshot_legs}
use Rattle.search.specs.laws.SnapshotLaws.{snapshot_is_chart}
use Rattle.least.proofs.routes.find.Goals as goal

pub returns-then-ends-n : goal.returns-then-ends-n
returns-then-ends-n c q is_route =
    let s = c.args.snapshot.now in
    let leaves = route_leaves_fix (snapshot_legs s) (snapshot_is_chart s) c.args.ends.from c.args.ends.to q is_route in
    omega (arith, c.if-ends-n.true, c.n.ensures)
