-- Which legs a chain shuts, by flags, and the least time of any route where those take their low time.
use Rattle.std.specs.Prelude.{◌≡◌, ℕ, ◌<◌, Bool, true, false, ◌⊎◌, List, Some, None, MatchBool, Option, ◌≢◌, slice_index_or}
use Rattle.chart.specs.declared.leg.Leg.{Leg}
use Rattle.chart.specs.Legs.{leg_at}
use Rattle.chart.specs.Regret.{Query, IsRoute, IsLeastTime}
use Rattle.chart.specs.Floors.{IsShut, IsFloorChoice}
use Rattle.search.specs.declared.walked.Walked.{Walked}
use Rattle.search.specs.Walks.{IsWalkedAlong}

-- whether the fix v is used, and is not u
abbrev pub IsUsedBeside : List Bool → ℕ → ℕ → Bool → Type 0
IsUsedBeside used u v true = (v ≢ u) × (slice_index_or used v false ≡ true)
IsUsedBeside used u v false = (v ≡ u) ⊎ (slice_index_or used v false ≡ false)

-- of the legs below n, just those are flagged that ks does not shut
abbrev pub AreUnshut : List Leg → List ℕ → List Bool → ℕ → Type 0
AreUnshut legs ks flags n = (k : ℕ) → k < n →
    MatchBool (slice_index_or flags k false) (IsShut legs ks k → ⊥) (IsShut legs ks k)

-- b is the least time of any route where the legs that ks shuts take their low and all others their high time
pub record HasFloorChoiceTime (t : Query) (ks : List ℕ) (b : ℕ) : Type 0 where
  pub choice : ℕ → ℕ
  pub floor_choice : IsFloorChoice t.legs ks choice
  pub least : IsLeastTime t choice b

-- the least time of any route where the legs that ks shuts take their low time, or none where there is no route
abbrev pub FloorChoiceTime : Query → List ℕ → Option ℕ → Type 0
FloorChoiceTime t ks None = (q : List ℕ) → IsRoute t q → ⊥
FloorChoiceTime t ks (Some b) = HasFloorChoiceTime t ks b

-- b says whether the leg k of a chart, which is `leg`, is shut by the chain that was walked along to find w
abbrev pub TellsShut : Walked → ℕ → Leg → Bool → Type 0
TellsShut w k leg b = (legs : List Leg) (ks : List ℕ) → IsWalkedAlong legs w.from ks w → leg ≡ leg_at legs k →
    MatchBool b (IsShut legs ks k) (IsShut legs ks k → ⊥)

-- of the legs below n, just those are flagged that are not shut by the chain that was walked along to find w
abbrev pub FlagsUnshut : List Leg → Walked → List Bool → ℕ → Type 0
FlagsUnshut legs w flags n = (ks : List ℕ) → IsWalkedAlong legs w.from ks w → AreUnshut legs ks flags n

-- r is the least time of any route of the query where the legs shut by the chain that was walked along to find w take
-- their low time
abbrev pub FloorChoiceTimeBy : Query → Walked → Option ℕ → Type 0
FloorChoiceTimeBy t w r = (ks : List ℕ) → IsWalkedAlong t.legs t.source ks w → FloorChoiceTime t ks r
