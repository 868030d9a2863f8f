-- Which rows of plain numbers are legs of a chart, and when a table refuses its rows.
use Rattle.std.specs.Prelude.{◌≡◌, ℕ, ◌<◌, ◌≤◌, ◌⊎◌, List, [], length, ◌≢◌, slice_index_or, Result}
use Rattle.std.proofs.Common.{inl, inr}
use Rattle.std.proofs.Math.Decide.{dec_le}
use Rattle.std.proofs.lemmas.Bool.{cases_eq}
use Rattle.chart.specs.declared.row.Row.{Row}
use Rattle.chart.specs.declared.row.Standing.TheVariants.{Open}
use Rattle.chart.specs.declared.leg.Leg.{Leg}
use Rattle.chart.specs.declared.refusals.RowRefusal.{RowRefusal}
use Rattle.chart.specs.declared.refusals.TableRefusal.{TableRefusal}
use Rattle.chart.specs.Limits.{min_fixes, max_fixes, max_legs, max_seconds, max_level}
use Rattle.chart.specs.Legs.{no_leg}
use Rattle.chart.specs.Refusals.{row_number, table_number}
use Rattle.chart.specs.Outcomes.{Outcome, values, refused, outcome_by}

-- the numbers of a leg
abbrev pub row_of_leg : Leg → Row
row_of_leg l = record { from = l.from; to = l.to; low = l.low; high = l.high; top = l.top; standing = l.standing }

-- the times and the level of a row are within their limits
pub record HasValidTimes (r : Row) : Type 0 where
  pub ordered : r.low ≤ r.high
  pub bounded : r.high ≤ max_seconds
  pub level : r.top ≤ max_level

-- a row joins two different fixes of a chart that has n
pub record HasValidFixes (n : ℕ) (r : Row) : Type 0 where
  pub leaves : r.from < n
  pub enters : r.to < n
  pub apart : r.from ≡ r.to → ⊥

-- a row is a leg of a chart with n fixes
pub record IsValidRow (n : ℕ) (r : Row) : Type 0 where
  pub valid_times : HasValidTimes r
  pub valid_fixes : HasValidFixes n r

-- the number that a row is refused with as a leg of a chart with n fixes: times and level come first, then fixes
abbrev pub RowRefused : ℕ → Row → ℕ → Type 0
RowRefused n r number =
    ((number ≡ 8) × (HasValidTimes r → ⊥))
    ⊎ ((number ≡ 7) × HasValidTimes r × (HasValidFixes n r → ⊥))

-- what is answered where a leg is to be made of a row: no value but the leg itself, or the number of the refusal
abbrev pub row_outcome : Result Leg RowRefusal → Outcome
row_outcome = outcome_by (λ _. []) row_number

-- the outcome of a row as a leg of a chart with n fixes
abbrev pub IsRowOutcome : ℕ → Row → Outcome → Type 0
IsRowOutcome n r (values []) = IsValidRow n r
IsRowOutcome n r (refused number) = RowRefused n r number
IsRowOutcome n r _ = ⊥

-- what stands past the end of a list of rows
abbrev pub no_row : Row
no_row = record { from = 0; to = 0; low = 0; high = 0; top = 0; standing = Open }

-- the row of the number k
abbrev pub row_at : List Row → ℕ → Row
row_at rows k = slice_index_or rows k no_row

-- the number of fixes and the number of rows are within the limits of charts
pub record HasValidCounts (n m : ℕ) : Type 0 where
  pub least : min_fixes ≤ n
  pub most : n ≤ max_fixes
  pub few : m ≤ max_legs

-- each of the first m rows is a leg of a chart with n fixes
abbrev pub AreValidRows : ℕ → List Row → ℕ → Type 0
AreValidRows n rows m = (k : ℕ) → k < m → IsValidRow n (row_at rows k)

-- the first row that is no leg is refused with the number
pub record FirstRowRefused (n : ℕ) (rows : List Row) (number : ℕ) : Type 0 where
  pub place : ℕ
  pub there : place < length rows
  pub before : AreValidRows n rows place
  pub refusal : RowRefused n (row_at rows place) number

-- the number that rows are refused with as a table with n fixes: the counts come first, then the first row that is no
-- leg, which is refused with 8 or 7
abbrev pub TableRefused : ℕ → List Row → ℕ → Type 0
TableRefused n rows number =
    ((number ≡ 4) × (HasValidCounts n (length rows) → ⊥))
    ⊎ (HasValidCounts n (length rows) × FirstRowRefused n rows number)

-- what is answered where a table is to take rows: no value, or the number of the refusal
abbrev pub table_outcome : {T : Type 0} → Result T TableRefusal → Outcome
table_outcome = outcome_by (λ _. []) table_number

-- the outcome of rows as a table with n fixes
abbrev pub IsTableOutcome : ℕ → List Row → Outcome → Type 0
IsTableOutcome n rows (values []) = HasValidCounts n (length rows) × AreValidRows n rows (length rows)
IsTableOutcome n rows (refused number) = TableRefused n rows number
IsTableOutcome n rows _ = ⊥

-- the leg with the numbers of a row that are within a leg's limits
abbrev pub leg_within : (r : Row) → (r.from ≢ r.to) → r.low ≤ r.high → r.high ≤ max_seconds → r.top ≤ max_level → Leg
leg_within r a o b l = record {
  from = r.from;
  to = r.to;
  low = r.low;
  high = r.high;
  top = r.top;
  standing = r.standing;
  apart = a;
  ordered = o;
  bounded = b;
  level = l;
}

-- the leg with the numbers of a row, by whether they are within a leg's limits
unfoldable pub leg_by : (r : Row) →
    (r.from ≡ r.to) ⊎ (r.from ≢ r.to) → Dec (r.low ≤ r.high) → Dec (r.high ≤ max_seconds) → Dec (r.top ≤ max_level) →
    Leg
leg_by r (inr a) (yes o) (yes b) (yes l) = leg_within r a o b l
leg_by r (inl _) o b l = no_leg
leg_by r (inr a) (no _) b l = no_leg
leg_by r (inr a) (yes o) (no _) l = no_leg
leg_by r (inr a) (yes o) (yes b) (no _) = no_leg

-- the leg with the numbers of a row; of a row that is no leg, a closed one
unfoldable pub leg_of : Row → Leg
leg_of r = leg_by r (cases_eq r.from r.to) (dec_le r.low r.high) (dec_le r.high max_seconds) (dec_le r.top max_level)
