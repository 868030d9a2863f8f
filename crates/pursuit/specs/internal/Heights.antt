-- How heights are found: each is the length of a path, and fixes are lifted until no leg asks for more.
use Rattle.std.specs.Prelude.{◌≡◌, ℕ, ◌+◌, ◌-◌, ◌<◌, ◌≤◌, ◌⊎◌, Bool, true, false, List, length, sum_by}
use Rattle.chart.specs.Legs.{leg_at}
use Rattle.chart.specs.Limits.{max_fixes}
use Rattle.chart.specs.Regret.{Query}
use Rattle.pursuit.specs.Rivals.{IsRivalLeg, IsPath}
use Rattle.pursuit.specs.Answers.{height_at}

-- a path of h legs that rivals may have leads to the fix v
pub record HasPathTo (t : Query) (v h : ℕ) : Type 0 where
  pub start : ℕ
  pub by : List ℕ
  pub path : IsPath (IsRivalLeg t) t.legs start by v
  pub long : length by ≡ h

-- for the height of each fix there is such a path
abbrev pub AreOfPaths : Query → List ℕ → Type 0
AreOfPaths t heights = (v : ℕ) → HasPathTo t v (height_at heights v)

-- the leg k asks for no lift: it leads to a higher fix, or leaves one as high as there are fixes
abbrev pub AsksNoLift : Query → ℕ → List ℕ → ℕ → Type 0
AsksNoLift t fixes heights k = IsRivalLeg t k →
    (height_at heights (leg_at t.legs k).from < height_at heights (leg_at t.legs k).to)
    ⊎ (fixes ≤ height_at heights (leg_at t.legs k).from)

-- how far heights can still rise, all together
unfoldable pub heights_left : List ℕ → ℕ
heights_left heights = sum_by (λ h. max_fixes + 1 - h) heights

-- fixes were lifted by the legs of which P says so: heights rose, or they are the same and none of the legs asks for more
pub record IsLift (t : Query) (fixes : ℕ) (P : ℕ → Type 0) (old new : List ℕ) (lifted : Bool) : Type 0 where
  pub of_paths : AreOfPaths t old → AreOfPaths t new
  pub rose : lifted ≡ true → heights_left new < heights_left old
  pub same : lifted ≡ false → new ≡ old
  pub none_asks : lifted ≡ false → (k : ℕ) → P k → AsksNoLift t fixes new k

-- fixes were lifted by the leg k alone
abbrev pub IsLiftByLeg : Query → ℕ → ℕ → List ℕ → List ℕ → Bool → Type 0
IsLiftByLeg t fixes k = IsLift t fixes (λ j. j ≡ k)

-- fixes were lifted by the legs before the leg m
abbrev pub IsLiftByLegs : Query → ℕ → ℕ → List ℕ → List ℕ → Bool → Type 0
IsLiftByLegs t fixes m = IsLift t fixes (λ j. j < m)
