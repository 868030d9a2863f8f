use Rattle.chart.specs.Rows.{AreValidRows}
use Rattle.chart.proofs.table.check_each.Given as goal

abbrev pub invariant-loop-row : goal.invariant-loop-row
invariant-loop-row l = AreValidRows l.n l.rows l.row-index
