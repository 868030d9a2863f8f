use Rattle.std.proofs.Common.{arith}
use Rattle.chart.proofs.SmallTotals.{quickest_seconds_small, quickest_legs}
use Rattle.chart.proofs.kind.QuickestKind.add.Goals as goal

pub overflow_add-result : goal.overflow_add-result
overflow_add-result c =
    let few = c.requires in
    let small = quickest_seconds_small few.0 c.args.total few.1 in
    omega (arith, few.2, c.args.leg.now.bounded)

pub overflow_add-result-2 : goal.overflow_add-result-2
overflow_add-result-2 c = let few = c.requires in omega (arith, few.2, quickest_legs few.0 c.args.total few.1)
