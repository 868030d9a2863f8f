-- Walking along legs: flags for the fixes that are met and for the legs that are flown, and the sum of high times.
use Rattle.std.specs.Prelude.{◌≡◌, ℕ, ◌<◌, Bool, true, false, List, Some, None, Option, slice_index_or}
use Rattle.chart.specs.declared.leg.Leg.{Leg}
use Rattle.chart.specs.Legs.{leg_at}
use Rattle.chart.specs.Routes.{Leaves, IsChain, fixes_of_chain, IsIn}
use Rattle.chart.specs.Regret.{time}
use Rattle.chart.specs.Floors.{highs}
use Rattle.search.specs.declared.walked.Walked.{Walked}

-- the flag of a number is set just where the number is in the list
pub record AreFlagsOf (flags : List Bool) (vs : List ℕ) : Type 0 where
  pub back : (v : ℕ) → slice_index_or flags v false ≡ true → IsIn v vs
  pub on : (v : ℕ) → IsIn v vs → slice_index_or flags v false ≡ true

-- the leg k leads on from z to a fix that is not used
pub record CanStep (legs : List Leg) (z : ℕ) (used : List Bool) (k : ℕ) : Type 0 where
  pub leaves : Leaves legs z k
  pub fresh : slice_index_or used (leg_at legs k).to false ≡ false

-- the leg k, where it leads on from z to a fix that is not used
abbrev pub StepAnswer : List Leg → ℕ → List Bool → ℕ → Option Leg → Type 0
StepAnswer legs z used k None = CanStep legs z used k → ⊥
StepAnswer legs z used k (Some leg) = (leg ≡ leg_at legs k) × CanStep legs z used k

-- the legs ks are a chain from s to z, and just the fixes that they meet are used
pub record IsWalk (legs : List Leg) (s : ℕ) (ks : List ℕ) (z : ℕ) (used : List Bool) : Type 0 where
  pub chain : IsChain legs s ks z
  pub flags : AreFlagsOf used (fixes_of_chain legs s ks)

-- w is the walk along the legs ks from s: it has s, the fixes that they meet used and the legs flagged, and sums their
-- high times
pub record IsWalkedAlong (legs : List Leg) (s : ℕ) (ks : List ℕ) (w : Walked) : Type 0 where
  pub from : w.from ≡ s
  pub walk : IsWalk legs s ks w.end w.used
  pub flags : AreFlagsOf w.flown ks
  pub sums : w.high ≡ time (highs legs) ks

-- the list ks is no chain from s
abbrev pub IsNoChain : List Leg → ℕ → List ℕ → Type 0
IsNoChain legs s ks = (z : ℕ) → IsChain legs s ks z → ⊥

-- what walking along the list ks from s finds: none where s is no fix or ks no chain
abbrev pub WalkAnswer : ℕ → List Leg → ℕ → List ℕ → Option Walked → Type 0
WalkAnswer fixes legs s ks None = s < fixes → IsNoChain legs s ks
WalkAnswer fixes legs s ks (Some w) = (s < fixes) × IsWalkedAlong legs s ks w
