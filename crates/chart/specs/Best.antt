-- The total of a list of legs, and the best total over all routes.
use Rattle.std.specs.Prelude.{◌≡◌, ℕ, List, [], ◌∷◌, Some, None, Option}
use Rattle.chart.specs.declared.leg.Leg.{Leg}
use Rattle.chart.specs.Legs.{leg_at}
use Rattle.chart.specs.Routes.{IsRouteBetween}
use Rattle.chart.specs.Kinds.{Rule}

-- the total t with the legs ks added in their order
abbrev pub total_from : {T : Type 0} → Rule T → List Leg → T → List ℕ → T
total_from rule legs t [] = t
total_from rule legs t (k ∷ ks) = total_from rule legs (rule.add t k (leg_at legs k)) ks

-- the total of the legs ks
abbrev pub total : {T : Type 0} → Rule T → List Leg → List ℕ → T
total rule legs ks = total_from rule legs rule.start ks

-- x is the total of some route from s to t, and as good as the total of every such route
pub record IsBest {T : Type 0} (rule : Rule T) (legs : List Leg) (s t : ℕ) (x : T) : Type 0 where
  pub some : (ks : List ℕ) × IsRouteBetween legs s t ks × (total rule legs ks ≡ x)
  pub every : (ks : List ℕ) → IsRouteBetween legs s t ks → rule.order x (total rule legs ks)

-- the best total over all routes from s to t, or none where there is no route
abbrev pub BestTotal : {T : Type 0} → Rule T → List Leg → ℕ → ℕ → Option T → Type 0
BestTotal rule legs s t None = (ks : List ℕ) → IsRouteBetween legs s t ks → ⊥
BestTotal rule legs s t (Some x) = IsBest rule legs s t x

-- there is one best total at most, and none beside one
abbrev pub BestTotalIsUnique : {T : Type 0} → Rule T → Type 0
BestTotalIsUnique {T = T} rule = (legs : List Leg) (s t : ℕ) (x y : Option T) →
    BestTotal rule legs s t x → BestTotal rule legs s t y → x ≡ y
