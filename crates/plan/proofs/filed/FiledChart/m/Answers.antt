use Rattle.std.proofs.Common.{arith}
use Rattle.plan.specs.laws.PlanLaws.{length_overlay}
use Rattle.plan.proofs.filed.FiledChart.m.Goals as goal

pub returns : goal.returns
returns g c = omega (arith, c.m.ensures, length_overlay (g.C.Chart.legs c.args.self.now.chart) c.args.self.now.amended.items)
