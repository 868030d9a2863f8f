-- The legs that leave a fix, in rising order of their numbers.
use Rattle.std.specs.Prelude.{◌≡◌, ℕ, ◌-◌, ◌<◌, ◌≤◌, ◌==◌, List, [], length, Some, None, Option, ◌≢◌}
use Rattle.std.specs.Option.{MatchOption}
use Rattle.std.specs.List.{filter, range_with_len}
use Rattle.chart.specs.declared.leg.Leg.{Leg}
use Rattle.chart.specs.Legs.{leg_at}

-- of the legs with the number `low` or more, j is the first that leaves the fix v
pub record IsLowest (legs : List Leg) (v low j : ℕ) : Type 0 where
  pub there : j < length legs
  pub above : low ≤ j
  pub leaves : (leg_at legs j).from ≡ v
  pub gap : (k : ℕ) → low ≤ k → k < j → (leg_at legs k).from ≢ v

-- the first leg that leaves the fix v and has the number `low` or more, or none where there is none
abbrev pub IsFirstLeg : List Leg → ℕ → ℕ → Option ℕ → Type 0
IsFirstLeg legs v low r =
    MatchOption r ((k : ℕ) → low ≤ k → k < length legs → (leg_at legs k).from ≢ v) (IsLowest legs v low)

-- the numbers of the legs that leave the fix v and have the number `low` or more, rising
unfoldable pub legs_leaving : List Leg → ℕ → ℕ → List ℕ
legs_leaving legs v low = filter (λ k. (leg_at legs k).from == v) (range_with_len low (length legs - low))

-- the numbers from j on of the legs that leave the same fix as the leg j, rising: what is left of the legs that leave it
abbrev pub legs_left_from : List Leg → Option ℕ → List ℕ
legs_left_from legs None = []
legs_left_from legs (Some j) = legs_leaving legs (leg_at legs j).from j
