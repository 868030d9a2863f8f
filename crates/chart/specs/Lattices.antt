-- What a lattice means: columns × rows fixes, and the legs of its grid.
use Rattle.std.specs.Prelude.{ℕ, ◌*◌, List, map}
use Rattle.chart.specs.declared.leg.Leg.{Leg}
use Rattle.chart.specs.declared.lattice.Lattice.{Lattice}
use Rattle.chart.specs.Rows.{leg_of}
use Rattle.chart.specs.Grid.{grid_legs}

-- the number of fixes that a lattice means
abbrev pub lattice_fixes : Lattice → ℕ
lattice_fixes l = l.columns * l.rows

-- the legs that a lattice means
unfoldable pub lattice_legs : Lattice → List Leg
lattice_legs l = map leg_of (grid_legs l.rows l.columns l.top l.steps)
