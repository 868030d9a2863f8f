-- The legs of a chart in a row, and for each fix the chain of the legs that leave it.
use Rattle.std.specs.Prelude.{◌≡◌, ℕ, ◌+◌, ◌<◌, ◌≤◌, List, length, take, map, None, Option, IfSome, slice_index_or}
use Rattle.chart.specs.declared.leg.Leg.{Leg}
use Rattle.chart.specs.Legs.{leg_at}
use Rattle.chart.specs.Limits.{max_fixes, max_legs}
use Rattle.search.specs.declared.snapshot.IndexedLeg.{IndexedLeg}
use Rattle.search.specs.LegsLeaving.{IsFirstLeg}

-- the legs of a row
abbrev pub indexed_legs : List IndexedLeg → List Leg
indexed_legs row = map (λ (l : IndexedLeg). l.leg) row

-- the first `count` legs of a row
abbrev pub first_legs : ℕ → List IndexedLeg → List Leg
first_legs count row = take count (indexed_legs row)

-- for each leg of a row the one after it that leaves the same fix
abbrev pub next_legs : List IndexedLeg → List (Option ℕ)
next_legs row = map (λ (l : IndexedLeg). l.next) row

-- j is the number of a leg, or none
abbrev pub IsLeg : List Leg → Option ℕ → Type 0
IsLeg legs r = IfSome r (λ j. j < length legs)

-- the row has no more legs than a chart can have, and they leave fixes that a chart can have
pub record FitsIndex (row : List IndexedLeg) : Type 0 where
  pub few : length row ≤ max_legs
  pub leaves : (k : ℕ) → k < length row → (leg_at (indexed_legs row) k).from < max_fixes

-- The legs with the number `low` or more are indexed: `first` has the first of them that leaves a fix,
-- and `next` the one that leaves the same fix after a leg.
pub record IsAdjacencyIndex (legs : List Leg) (low : ℕ) (first next : List (Option ℕ)) : Type 0 where
  pub heads : length first ≡ max_fixes
  pub starts : (v : ℕ) → v < max_fixes → IsFirstLeg legs v low (slice_index_or first v None)
  pub goes : (k : ℕ) → low ≤ k → k < length legs → IsFirstLeg legs (leg_at legs k).from (k + 1) (slice_index_or next k None)
