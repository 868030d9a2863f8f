use Rattle.std.proofs.Common.{ℕ, ◌<◌}
use Rattle.pursuit.specs.internal.Margins.{table_margin, IsSupportedIn}
use Rattle.pursuit.proofs.margin_table.MarginTable.is_row_supported.Given as goal

abbrev pub invariant-loop-b : goal.invariant-loop-b
invariant-loop-b l = (j : ℕ) → j < l.b → IsSupportedIn l.self l.a j (table_margin l.self l.a j)
