use Rattle.std.proofs.Common.{arith}
use Rattle.chart.proofs.ShortRoutes.{routes_short}
use Rattle.chart.proofs.most_legs.Goals as goal

pub returns : goal.returns
returns g c =
    let chart = c.args.chart.now in
    let is_chart = g.C.Chart.is_chart chart in
    record {
      one_fewer = omega (arith, c.n.ensures, is_chart.least);
      routes_are_short = routes_short (g.C.Chart.fixes chart) (g.C.Chart.legs chart) is_chart;
      within_limits = is_chart;
    }
