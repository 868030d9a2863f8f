-- The proofs that the legs of a grid, and so those of a lattice, are the legs of a chart.
-- There is nothing here to believe: it stands among the definitions since the lattice itself cites it.
use Rattle.std.specs.Prelude.{◌≡◌, ℕ, ◌+◌, ◌-◌, ◌*◌, ◌/◌, ◌%◌, ◌<◌, ◌≤◌, List, map, length, refl}
use Rattle.std.proofs.Common.{sym, subst, mod-lt, add-mul, div-add-mod', arith}
use Rattle.std.proofs.Math.Arith.{digits_lt}
use Rattle.std.specs.List.{range_with_len}
use Rattle.std.proofs.lemmas.Nat.{div_below, mul-le}
use Rattle.std.proofs.lemmas.List.FromFn.{length-map-range_with_len, get_or-map-range_with_len}
use Rattle.chart.specs.declared.row.Row.{Row}
use Rattle.chart.specs.declared.interval.Step.{Step}
use Rattle.chart.specs.declared.lattice.Lattice.{Lattice}
use Rattle.chart.specs.Limits.{max_rows, max_columns, max_level}
use Rattle.chart.specs.Legs.{IsChart}
use Rattle.chart.specs.Rows.{row_at, no_row, IsValidRow, AreValidRows, HasValidCounts}
use Rattle.chart.specs.Grid.{interval_at, step_legs, grid_size, step_of, row_of, turn_of, grid_leg, grid_legs, IsValidInterval, HasNumber}
use Rattle.chart.specs.Lattices.{lattice_fixes, lattice_legs}
use Rattle.chart.specs.laws.Rows.{rows_are_chart}

-- the leg of the number k
abbrev pub kth_leg : (rows top : ℕ) → List Step → ℕ → Row
kth_leg rows top steps k = grid_leg rows top steps (step_of rows k) (row_of rows k) (turn_of rows k)

pub grid_list : (rows columns top : ℕ) (steps : List Step)
    → map (kth_leg rows top steps) (range_with_len 0 (grid_size rows columns)) ≡ grid_legs rows columns top steps
unfolding grid_legs
grid_list rows columns top steps = refl

pub length_grid : (rows columns top : ℕ) (steps : List Step) → length (grid_legs rows columns top steps) ≡ grid_size rows columns
unfolding grid_legs
length_grid rows columns top steps = length-map-range_with_len (kth_leg rows top steps) 0 (grid_size rows columns)

pub grid_at : (rows columns top : ℕ) (steps : List Step) (k : ℕ) → k < grid_size rows columns
    → row_at (grid_legs rows columns top steps) k ≡ kth_leg rows top steps k
unfolding grid_legs
grid_at rows columns top steps k h = get_or-map-range_with_len (kth_leg rows top steps) 0 (grid_size rows columns) k k no_row h (omega arith)

-- the step, row and turn of a leg
pub leg_has_number : (rows columns k : ℕ) → 1 ≤ rows → k < grid_size rows columns
    → HasNumber rows columns (step_of rows k) (row_of rows k) (turn_of rows k) k
leg_has_number rows columns k some h =
    let d = step_legs rows in
    let pos : 0 < d = omega arith in
    let j : k % d < d = mod-lt k pos in
    let s : k / d < columns - 1 = div_below k d (columns - 1) pos h in
    let e : (k / d) * d + k % d ≡ k = div-add-mod' k d in
    record {
      step_there = omega arith;
      row_there = omega arith;
      turn_there = omega arith;
      arrives = omega arith;
      stays = omega arith;
      number = omega arith;
    }

-- where the leg of a step, a row and a turn leads
module _ (rows columns top : ℕ) (steps : List Step) (s r t k : ℕ) (some : 1 ≤ rows) (n : HasNumber rows columns s r t k) where
  pub leaves_below : s * rows + r < columns * rows
  leaves_below = digits_lt {q = s} {m = columns} {r = r} {c = rows} (omega (arith, n.step_there)) n.row_there

  pub enters_below : (s + 1) * rows + r + t - 1 < columns * rows
  enters_below =
      let h = digits_lt {q = s + 1} {m = columns} {r = r + t - 1} {c = rows} n.step_there (omega (arith, n.arrives, n.stays)) in
      omega (arith, n.arrives)

  pub fixes_apart : s * rows + r ≡ (s + 1) * rows + r + t - 1 → ⊥
  fixes_apart e = let p = add-mul s 1 rows in omega (arith, n.arrives, n.row_there)

  leg_is_valid_row : top ≤ max_level → IsValidInterval (interval_at steps s t) → IsValidRow (columns * rows) (grid_leg rows top steps s r t)
  unfolding grid_leg
  leg_is_valid_row level spans = record {
    valid_times = record { ordered = spans.ordered; bounded = spans.bounded; level = level };
    valid_fixes = record { leaves = leaves_below; enters = enters_below; apart = fixes_apart };
  }

pub grid_rows_are_valid : (rows columns top : ℕ) (steps : List Step) → 1 ≤ rows → top ≤ max_level →
    ((s t : ℕ) → s + 1 < columns → t < 3 → IsValidInterval (interval_at steps s t)) →
    AreValidRows (columns * rows) (grid_legs rows columns top steps) (length (grid_legs rows columns top steps))
grid_rows_are_valid rows columns top steps some level spans k h =
    let b : k < grid_size rows columns = omega (arith, length_grid rows columns top steps) in
    let n = leg_has_number rows columns k some b in
    subst (λ x. IsValidRow (columns * rows) x) (sym (grid_at rows columns top steps k b))
    (leg_is_valid_row rows columns top steps (step_of rows k) (row_of rows k) (turn_of rows k) k some n level
    (spans (step_of rows k) (turn_of rows k) n.step_there n.turn_there))

pub grid_has_valid_counts : (rows columns top : ℕ) (steps : List Step) → 1 ≤ rows → rows ≤ max_rows
    → 2 ≤ columns → columns ≤ max_columns → HasValidCounts (columns * rows) (length (grid_legs rows columns top steps))
grid_has_valid_counts rows columns top steps some few wide short =
    let least = mul-le 2 1 columns rows wide some in
    let most = mul-le columns rows max_columns max_rows short few in
    let size = mul-le (columns - 1) (step_legs rows) 19 28 (omega arith) (omega arith) in
    record { least = omega arith; most = omega arith; few = omega (arith, length_grid rows columns top steps) }

-- a lattice is within the limits of charts
pub lattice_is_chart : (l : Lattice) → IsChart (lattice_fixes l) (lattice_legs l)
unfolding lattice_legs
lattice_is_chart l =
    rows_are_chart (lattice_fixes l) (grid_legs l.rows l.columns l.top l.steps)
    (grid_has_valid_counts l.rows l.columns l.top l.steps l.some l.few l.wide l.short)
    (grid_rows_are_valid l.rows l.columns l.top l.steps l.some l.level
    (λ s t h b. record { ordered = l.ordered s t h b; bounded = l.bounded s t h b }))
