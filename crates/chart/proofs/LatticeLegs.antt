-- The legs of a lattice, one by one, and how they are numbered.
use Rattle.std.proofs.Common.{◌≡◌, ℕ, ◌+◌, ◌-◌, ◌*◌, ◌/◌, ◌%◌, ◌<◌, ◌≤◌, List, map, length, get_or, sym, ap, ◌∙◌, subst, add-mul, arith}
use lib.Arith.{digits_lt, digits_div, digits_mod}
use Rattle.std.proofs.lemmas.Nat.{mul-le}
use Rattle.std.proofs.lemmas.List.{get_or_default}
use Rattle.chart.specs.declared.row.Row.{Row}
use Rattle.chart.specs.declared.row.Standing.{Standing}
use Rattle.chart.specs.declared.row.Standing.TheVariants.{Open}
use Rattle.chart.specs.declared.interval.Step.{Step}
use Rattle.chart.specs.declared.lattice.Lattice.{Lattice}
use Rattle.chart.specs.Limits.{max_fixes, max_rows, max_columns, max_steps, max_level}
use Rattle.std.proofs.lemmas.List.FromFn.{fill_by_all}
use Rattle.chart.specs.Rows.{row_of_leg, leg_of, row_at, no_row}
use Rattle.chart.specs.Grid.{grid_legs, IsGridShape, IsValidInterval, IsValidStep, AreValidSteps, no_step, turn_at, step_at, step_legs, grid_size, step_of, row_of, turn_of, grid_leg, HasNumber, NumbersGrid}
use Rattle.chart.specs.internal.Steps.{AreCopied}
use Rattle.chart.specs.laws.Lattices.{kth_leg, grid_list, length_grid, grid_at, leg_has_number, leaves_below, enters_below, grid_rows_are_valid}
use Rattle.chart.proofs.LegsOfRows.{legs_give_rows_back}

-- the numbers of a leg of a lattice are small
pub record SmallLeg (rows s r t : ℕ) : Type 0 where
  pub step_small : s < max_steps
  pub turn_small : t < 3
  pub from_small : s * rows + r < max_fixes
  pub to_small : (s + 1) * rows + r + t ≤ max_fixes

pub small_leg : (l : Lattice) (k : ℕ) → k < grid_size l.rows l.columns → SmallLeg l.rows (step_of l.rows k) (row_of l.rows k) (turn_of l.rows k)
small_leg l k h =
    let rows = l.rows in
    let columns = l.columns in
    let n = leg_has_number rows columns k l.some h in
    let s = step_of rows k in
    let r = row_of rows k in
    let t = turn_of rows k in
    let most = mul-le columns rows max_columns max_rows l.short l.few in
    let from = leaves_below rows columns l.top l.steps s r t k l.some n in
    let to = enters_below rows columns l.top l.steps s r t k l.some n in
    record {
      step_small = omega (arith, n.step_there, l.short);
      turn_small = n.turn_there;
      from_small = omega arith;
      to_small = omega (arith, n.arrives);
    }

-- a row is known by its numbers
row_by : (f f' t t' l l' h h' p p' : ℕ) (s s' : Standing) → f ≡ f' → t ≡ t' → l ≡ l' → h ≡ h' → p ≡ p' → s ≡ s' →
    ◌≡◌ {A = Row} (record { from = f; to = t; low = l; high = h; top = p; standing = s }) (record { from = f'; to = t'; low = l'; high = h'; top = p'; standing = s' })
row_by f f' t t' l l' h h' p p' s s' ef et el eh ep es = cc

-- the leg k of a lattice, from its step as it was read
module _ (l : Lattice) (k : ℕ) (x : Step) (h : k < grid_size l.rows l.columns) where
  steps_read : step_at l.steps (step_of l.rows k) ≡ get_or l.steps (step_of l.rows k) x
  steps_read = get_or_default l.steps (step_of l.rows k) no_step x (omega (arith, (small_leg l k h).step_small, l.whole))

  pub spans_read : IsValidInterval (turn_at (get_or l.steps (step_of l.rows k) x) (turn_of l.rows k))
  spans_read =
      let n = leg_has_number l.rows l.columns k l.some h in
      subst (λ (y : Step). IsValidInterval (turn_at y (turn_of l.rows k))) steps_read
      (record { ordered = l.ordered _ _ n.step_there n.turn_there; bounded = l.bounded _ _ n.step_there n.turn_there })

  -- a leg leaves a fix before those of the next column, and enters one of these
  pub ends_read : (step_of l.rows k * l.rows + row_of l.rows k < (step_of l.rows k + 1) * l.rows) × (1 ≤ row_of l.rows k + turn_of l.rows k)
  ends_read =
      let n = leg_has_number l.rows l.columns k l.some h in
      (omega (arith, add-mul (step_of l.rows k) 1 l.rows, n.row_there), n.arrives)

  -- a row with the numbers of the leg k is that leg's
  pub leg_read : (r : Row) →
      r.from ≡ step_of l.rows k * l.rows + row_of l.rows k →
      r.to ≡ (step_of l.rows k + 1) * l.rows + row_of l.rows k + turn_of l.rows k - 1 →
      r.low ≡ (turn_at (get_or l.steps (step_of l.rows k) x) (turn_of l.rows k)).low →
      r.high ≡ (turn_at (get_or l.steps (step_of l.rows k) x) (turn_of l.rows k)).high →
      r.top ≡ l.top →
      r.standing ≡ Open →
      r ≡ row_at (grid_legs l.rows l.columns l.top l.steps) k
  unfolding grid_leg
  leg_read r from to low high top standing =
      row_by r.from _ r.to _ r.low _ r.high _ r.top _ r.standing _
      from to
      (low ∙ ap (λ (y : Step). (turn_at y (turn_of l.rows k)).low) (sym steps_read))
      (high ∙ ap (λ (y : Step). (turn_at y (turn_of l.rows k)).high) (sym steps_read))
      top standing
      ∙ sym (grid_at l.rows l.columns l.top l.steps k h)

-- a step, a row and a turn within the grid have a number, and it has them
number_gives_place_back : (rows columns s r t k : ℕ) → 1 ≤ rows → HasNumber rows columns s r t k → (k < grid_size rows columns) × (step_of rows k ≡ s) × (row_of rows k ≡ r) × (turn_of rows k ≡ t)
number_gives_place_back rows columns s r t k some n =
    let d = step_legs rows in
    let j = 3 * r + t - 1 in
    let small : j < d = omega (arith, n.arrives, n.stays, n.row_there, n.turn_there) in
    let is : k ≡ s * d + j = omega (arith, n.number, n.arrives) in
    let div : k / d ≡ s = ap (λ x. x / d) is ∙ digits_div s small in
    let rem : k % d ≡ j = ap (λ x. x % d) is ∙ digits_mod s small in
    let lt = digits_lt {q = s} {m = columns - 1} {r = j} {c = d} (omega (arith, n.step_there)) small in
    (omega arith, div, omega (arith, n.turn_there, n.arrives), omega (arith, n.turn_there, n.arrives))

pub grid_has_numbers : (rows columns : ℕ) → 1 ≤ rows → NumbersGrid rows columns
grid_has_numbers rows columns some = record { onward = λ k h. leg_has_number rows columns k some h; back = λ s r t k n. number_gives_place_back rows columns s r t k some n }

-- the steps of a grid, copied into a row
module _ (steps row : List Step) (n : ℕ) (copied : AreCopied steps row n) where
  pub copied_steps_valid : AreValidSteps steps n → AreValidSteps row n
  copied_steps_valid timed s h = subst IsValidStep (sym (copied.copies s h)) (timed s h)

  leg_same : (rows top s r t : ℕ) → s < n → grid_leg rows top row s r t ≡ grid_leg rows top steps s r t
  unfolding grid_leg
  leg_same rows top s r t h =
      ap (λ (y : Step). record { from = s * rows + r; to = (s + 1) * rows + r + t - 1; low = (turn_at y t).low; high = (turn_at y t).high; top = top; standing = Open }) (copied.copies s h)

  pub grid_same : (rows columns top : ℕ) → 1 ≤ rows → n + 1 ≡ columns → grid_legs rows columns top row ≡ grid_legs rows columns top steps
  grid_same rows columns top some e =
      fill_by_all (kth_leg rows top steps) (grid_legs rows columns top row) (grid_size rows columns) no_row (length_grid rows columns top row)
      (λ k h. grid_at rows columns top row k h ∙ leg_same rows top (step_of rows k) (row_of rows k) (turn_of rows k) (omega (arith, (leg_has_number rows columns k some h).step_there)))
      ∙ grid_list rows columns top steps

-- the legs of a lattice have the numbers of the legs of the grid that it was made of
pub lattice_gives_grid_back : (rows columns top : ℕ) (steps row : List Step) → IsGridShape rows columns (length steps) → top ≤ max_level → AreValidSteps steps (length steps) → AreCopied steps row (length steps) →
    map row_of_leg (map leg_of (grid_legs rows columns top row)) ≡ grid_legs rows columns top steps
lattice_gives_grid_back rows columns top steps row shaped level timed copied =
    let timed' = copied_steps_valid steps row (length steps) copied timed in
    legs_give_rows_back (columns * rows) (grid_legs rows columns top row)
    (grid_rows_are_valid rows columns top row shaped.some_rows level (λ s t h b. timed' s (omega (arith, shaped.steps_fit)) t b))
    ∙ grid_same steps row (length steps) copied rows columns top shaped.some_rows shaped.steps_fit
