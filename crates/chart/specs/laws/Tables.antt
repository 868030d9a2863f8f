-- The proofs that the rows of a table are the legs of a chart. There is nothing here to believe:
-- it stands among the definitions since the table itself cites it.
use Rattle.std.specs.Prelude.{◌≡◌, ℕ, ◌<◌, length}
use Rattle.std.proofs.Common.{sym, subst, arith, length-take, get_or-take}
use Rattle.chart.specs.declared.table.Table.{Table}
use Rattle.chart.specs.Legs.{IsChart}
use Rattle.chart.specs.Rows.{row_at, no_row, IsValidRow, AreValidRows}
use Rattle.chart.specs.Tables.{table_rows, table_legs}
use Rattle.chart.specs.laws.Rows.{rows_are_chart}

module _ (t : Table) where
  pub length_table_rows : length (table_rows t) ≡ t.count
  length_table_rows = let e = length-take t.count t.rows.now in omega (arith, t.there)

  pub row_at_table_rows : (k : ℕ) → k < t.count → row_at (table_rows t) k ≡ row_at t.rows.now k
  row_at_table_rows k h = get_or-take t.count t.rows.now k no_row h

  rows_are_valid : AreValidRows t.fixes (table_rows t) t.count
  rows_are_valid k h = subst (λ r. IsValidRow t.fixes r) (sym (row_at_table_rows k h)) (record {
    valid_times = record { ordered = t.ordered k h; bounded = t.bounded k h; level = t.level k h };
    valid_fixes = record { leaves = t.leaves k h; enters = t.enters k h; apart = t.apart k h };
  })

  -- a table is within the limits of charts
  pub table_is_chart : IsChart t.fixes (table_legs t)
  unfolding table_legs
  table_is_chart =
      rows_are_chart t.fixes (table_rows t)
      (record { least = t.least; most = t.most; few = omega (arith, length_table_rows, t.few) })
      (λ k h. rows_are_valid k (omega (arith, length_table_rows)))
