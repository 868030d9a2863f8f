-- The legs of an ocean grid. A fix has the number column × rows + row. From each row of a column a leg leads to
-- the same row of the next column and to each row beside it; the legs are numbered by step, then row, then turn.
use Rattle.std.specs.Prelude.{◌≡◌, ℕ, ◌+◌, ◌-◌, ◌*◌, ◌/◌, ◌%◌, ◌<◌, ◌≤◌, ◌⊎◌, List, [], ◌∷◌, map, length, slice_index_or, refl, Result}
use Rattle.std.specs.List.{range_with_len}
use Rattle.chart.specs.declared.row.Row.{Row}
use Rattle.chart.specs.declared.row.Standing.TheVariants.{Open}
use Rattle.chart.specs.declared.interval.Interval.{Interval}
use Rattle.chart.specs.declared.interval.Step.{Step}
use Rattle.chart.specs.declared.refusals.LatticeRefusal.{LatticeRefusal}
use Rattle.chart.specs.Limits.{max_rows, max_columns, max_seconds, max_level}
use Rattle.chart.specs.Refusals.{lattice_number}
use Rattle.chart.specs.Outcomes.{Outcome, values, refused, outcome_by}

-- what stands past the third turn, and past the last step
abbrev pub no_interval : Interval
no_interval = record { low = 0; high = 0 }

abbrev pub no_step : Step
no_step = record { turns = no_interval ∷ no_interval ∷ no_interval ∷ []; three = refl }

-- the interval of a turn of a step; the turns −1, 0, +1 stand at the places 0, 1, 2
abbrev pub turn_at : Step → ℕ → Interval
turn_at x t = slice_index_or x.turns t no_interval

-- a step by its place
abbrev pub step_at : List Step → ℕ → Step
step_at steps s = slice_index_or steps s no_step

-- the interval of a turn at a step
abbrev pub interval_at : List Step → ℕ → ℕ → Interval
interval_at steps s t = turn_at (step_at steps s) t

-- how many legs a step has: three from each row, but for the two that would leave the grid
abbrev pub step_legs : ℕ → ℕ
step_legs rows = 3 * rows - 2

-- how many legs the grid has
abbrev pub grid_size : (rows columns : ℕ) → ℕ
grid_size rows columns = (columns - 1) * step_legs rows

-- the step of the leg k, the row that it leaves, and the place of its turn
abbrev pub step_of : (rows k : ℕ) → ℕ
step_of rows k = k / step_legs rows

abbrev pub row_of : (rows k : ℕ) → ℕ
row_of rows k = (k % step_legs rows + 1) / 3

abbrev pub turn_of : (rows k : ℕ) → ℕ
turn_of rows k = (k % step_legs rows + 1) % 3

-- the leg of a step, a row and a turn, which adds one less than its place to the row
unfoldable pub grid_leg : (rows top : ℕ) → List Step → (s r t : ℕ) → Row
grid_leg rows top steps s r t = record {
  from = s * rows + r;
  to = (s + 1) * rows + r + t - 1;
  low = (interval_at steps s t).low;
  high = (interval_at steps s t).high;
  top = top;
  standing = Open;
}

-- all of them
unfoldable pub grid_legs : (rows columns top : ℕ) → List Step → List Row
grid_legs rows columns top steps =
    map
    (λ k. grid_leg rows top steps (step_of rows k) (row_of rows k) (turn_of rows k))
    (range_with_len 0 (grid_size rows columns))

-- rows and columns are within their limits, and the steps given are one fewer than the columns
pub record IsGridShape (rows columns steps : ℕ) : Type 0 where
  pub some_rows : 1 ≤ rows
  pub few_rows : rows ≤ max_rows
  pub some_columns : 2 ≤ columns
  pub few_columns : columns ≤ max_columns
  pub steps_fit : steps + 1 ≡ columns

-- an interval is within the limits of times
pub record IsValidInterval (i : Interval) : Type 0 where
  pub ordered : i.low ≤ i.high
  pub bounded : i.high ≤ max_seconds

-- the interval of each turn of a step is within the limits of times
abbrev pub IsValidStep : Step → Type 0
IsValidStep x = (t : ℕ) → t < 3 → IsValidInterval (turn_at x t)

-- the interval of each turn at each of the first n steps is within the limits of times
abbrev pub AreValidSteps : List Step → ℕ → Type 0
AreValidSteps steps n = (s : ℕ) → s < n → IsValidStep (step_at steps s)

-- the top level and all intervals are within their limits
pub record HasValidGridTimes (top : ℕ) (steps : List Step) : Type 0 where
  pub level : top ≤ max_level
  pub intervals : AreValidSteps steps (length steps)

-- the number that a lattice is refused with: its shape comes first, then its times and level
abbrev pub LatticeRefused : (rows columns top : ℕ) → List Step → ℕ → Type 0
LatticeRefused rows columns top steps number =
    ((number ≡ 16) × (IsGridShape rows columns (length steps) → ⊥))
    ⊎ ((number ≡ 8) × IsGridShape rows columns (length steps) × (HasValidGridTimes top steps → ⊥))

-- what is answered where a lattice is to be made: no value but the lattice itself, or the number of the refusal
abbrev pub lattice_outcome : {L : Type 0} → Result L LatticeRefusal → Outcome
lattice_outcome = outcome_by (λ _. []) lattice_number

-- the outcome of a grid as a lattice
abbrev pub IsLatticeOutcome : (rows columns top : ℕ) → List Step → Outcome → Type 0
IsLatticeOutcome rows columns top steps (values []) =
    IsGridShape rows columns (length steps) × HasValidGridTimes top steps
IsLatticeOutcome rows columns top steps (refused number) = LatticeRefused rows columns top steps number
IsLatticeOutcome rows columns top steps _ = ⊥

-- the step s, the row r and the turn at the place t are those of a leg of the grid, which has the number k
pub record HasNumber (rows columns s r t k : ℕ) : Type 0 where
  pub step_there : s + 1 < columns
  pub row_there : r < rows
  pub turn_there : t < 3
  pub arrives : 1 ≤ r + t
  pub stays : r + t ≤ rows
  pub number : k + 1 ≡ s * step_legs rows + 3 * r + t

-- each leg has a step, a row and a turn, and each step, row and turn within the grid has a leg
pub record NumbersGrid (rows columns : ℕ) : Type 0 where
  pub onward : (k : ℕ) → k < grid_size rows columns →
      HasNumber rows columns (step_of rows k) (row_of rows k) (turn_of rows k) k
  pub back : (s r t k : ℕ) → HasNumber rows columns s r t k →
      (k < grid_size rows columns) × (step_of rows k ≡ s) × (row_of rows k ≡ r) × (turn_of rows k ≡ t)
