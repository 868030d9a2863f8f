-- The least high time onward from the end of a chain.
use Rattle.std.specs.Prelude.{◌≡◌, ℕ, ◌≤◌, Bool, false, List, Some, None, Option, slice_index_or}
use Rattle.chart.specs.declared.leg.Leg.{Leg}
use Rattle.chart.specs.Legs.{leg_at}
use Rattle.chart.specs.Routes.{IsIn, IsChain}
use Rattle.chart.specs.Regret.{time}
use Rattle.chart.specs.Floors.{highs}

-- no leg of ks enters a used fix
abbrev pub AvoidsUsed : List Leg → List Bool → List ℕ → Type 0
AvoidsUsed legs used ks = (k : ℕ) → IsIn k ks → slice_index_or used (leg_at legs k).to false ≡ false

-- x is the least high time of the chains from s to t that enter no used fix
pub record IsLeastAvoiding (legs : List Leg) (used : List Bool) (s t x : ℕ) : Type 0 where
  pub by : List ℕ
  pub chain : IsChain legs s by t
  pub off : AvoidsUsed legs used by
  pub takes : time (highs legs) by ≡ x
  pub least : (r : List ℕ) → IsChain legs s r t → AvoidsUsed legs used r → x ≤ time (highs legs) r

-- the least high time of the chains from s to t that enter no used fix, or none where there is no such chain
abbrev pub LeastOnward : List Leg → List Bool → ℕ → ℕ → Option ℕ → Type 0
LeastOnward legs used s t None = (r : List ℕ) → IsChain legs s r t → AvoidsUsed legs used r → ⊥
LeastOnward legs used s t (Some x) = IsLeastAvoiding legs used s t x
