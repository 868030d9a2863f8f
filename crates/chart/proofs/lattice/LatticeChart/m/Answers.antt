use Rattle.std.proofs.Common.{arith}
use Rattle.chart.specs.Grid.{grid_legs}
use Rattle.chart.specs.laws.Lattices.{length_grid}
use Rattle.chart.specs.laws.Rows.{length_legs}
use Rattle.chart.specs.Lattices.{lattice_legs}
use Rattle.chart.proofs.lattice.LatticeChart.m.Goals as goal

pub returns : goal.returns
unfolding lattice_legs
returns c =
    let l = c.args.self.now in
    omega (arith, length_legs (grid_legs l.rows l.columns l.top l.steps), length_grid l.rows l.columns l.top l.steps)
