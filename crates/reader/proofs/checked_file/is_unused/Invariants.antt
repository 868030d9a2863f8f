use Rattle.std.proofs.Common.{◌≡◌, ℕ, ◌<◌}
use Rattle.chart_format.specs.Format.{name_at}
use Rattle.reader.specs.Files.{names_at}
use Rattle.reader.proofs.checked_file.is_unused.Given as goal

abbrev pub invariant-loop-at : goal.invariant-loop-at
invariant-loop-at l = (k : ℕ) → k < l.at-index → name_at (names_at l.file l.starts) k ≡ l.name → ⊥
