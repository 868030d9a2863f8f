-- All answers that were worked out by hand, in one statement.
use Rattle.std.specs.Prelude.{List}
use Rattle.chart.specs.declared.row.Row.{Row}
use Rattle.worked_examples.specs.FourFix.{FourFixWorked, FourFixClosed, SmallLatticeWorked}
use Rattle.worked_examples.specs.FourFixPlan.{FourFixAmended}
use Rattle.worked_examples.specs.TwoFix.{TwoFixFiles}

-- of the rows of the four-fix chart: its answers, those with legs closed, and those of its plan; beside them a small lattice and
-- three small files
pub record AllExamples (rows : List Row) : Type 0 where
  pub as_it_is : FourFixWorked rows
  pub with_closed_legs : FourFixClosed rows
  pub as_a_plan : FourFixAmended rows
  pub small_lattice : SmallLatticeWorked
  pub small_files : TwoFixFiles
