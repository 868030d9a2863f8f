use Rattle.std.proofs.Common.{arith}
use Rattle.chart.proofs.SmallTotals.{seconds_small}
use Rattle.chart.proofs.kind.SecondsKind.add.Goals as goal

pub overflow_add-result : goal.overflow_add-result
overflow_add-result g c =
    let choice = c.args.self.now.choice in
    let leg = c.args.leg.now in
    let few = c.requires in
    let bounds = g.T.Choice.bounded choice in
    let small = seconds_small (g.T.Choice.times choice) bounds few.0 c.args.total few.1 in
    let time = bounds c.args.k leg in
    omega (arith, few.2, c.time.ensures, leg.bounded)
