-- The legs of a chart's file are never refused as the rows of a table.
use Rattle.std.proofs.Common.{◌≡◌, ℕ, true, List, length, is_ok, Ok, Err, Result, refl, ⊎_elim}
use Rattle.chart.specs.declared.row.Row.{Row}
use Rattle.chart.specs.declared.refusals.TableRefusal.{TableRefusal}
use Rattle.chart.specs.Rows.{TableRefused, table_outcome, IsTableOutcome}
use Rattle.chart_format.specs.Format.{Name, Means}

legs_never_refused : {file : List ℕ} {names : List Name} {legs : List Row} (number : ℕ) → Means file names legs → TableRefused (length names) legs number → ⊥
legs_never_refused number m =
    ⊎_elim
    (λ counts. counts.1 m.valid.counts_valid)
    (λ rows. let valid = m.valid.rows_valid rows.1.place rows.1.there in
    ⊎_elim (λ times. times.1 valid.valid_times) (λ fixes. fixes.2 valid.valid_fixes) rows.1.refusal)

pub legs_always_taken : {A : Type 0} {file : List ℕ} {names : List Name} {legs : List Row} (r : Result A TableRefusal) →
    IsTableOutcome (length names) legs (table_outcome r) → Means file names legs → is_ok r ≡ true
legs_always_taken (Ok y) h m = refl
legs_always_taken (Err e) h m = absurd (legs_never_refused _ m h)
