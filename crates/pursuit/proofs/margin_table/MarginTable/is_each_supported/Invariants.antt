use Rattle.std.proofs.Common.{ℕ, ◌<◌}
use Rattle.pursuit.specs.internal.Margins.{IsRowSupportedIn}
use Rattle.pursuit.proofs.margin_table.MarginTable.is_each_supported.Given as goal

abbrev pub invariant-loop-a : goal.invariant-loop-a
invariant-loop-a l = (j : ℕ) → j < l.a → IsRowSupportedIn l.self j
