-- Chains and routes over a list of legs, and the order of lists.
use Rattle.std.specs.Prelude.{◌≡◌, ℕ, ◌+◌, ◌<◌, ◌≤◌, ◌⊎◌, List, [], ◌∷◌, length}
use Rattle.chart.specs.declared.leg.Leg.{Leg}
use Rattle.chart.specs.declared.row.Standing.TheVariants.{Open}
use Rattle.chart.specs.Legs.{leg_at}

-- k is the number of an open leg that leaves the fix s
pub record Leaves (legs : List Leg) (s k : ℕ) : Type 0 where
  pub there : k < length legs
  pub is_open : (leg_at legs k).standing ≡ Open
  pub from : (leg_at legs k).from ≡ s

-- the open legs ks, one after the other, lead from the fix s to the fix t
abbrev pub Leads : List Leg → ℕ → List ℕ → ℕ → Type 0
Leads legs s [] t = s ≡ t
Leads legs s (k ∷ ks) t = Leaves legs s k × Leads legs (leg_at legs k).to ks t

-- the fixes that the legs ks enter
abbrev pub fixes_entered : List Leg → List ℕ → List ℕ
fixes_entered legs [] = []
fixes_entered legs (k ∷ ks) = (leg_at legs k).to ∷ fixes_entered legs ks

-- the fixes that the legs ks meet from the fix s on, s first
abbrev pub fixes_of_chain : List Leg → ℕ → List ℕ → List ℕ
fixes_of_chain legs s ks = s ∷ fixes_entered legs ks

-- x is one of the numbers of a list
abbrev pub IsIn : ℕ → List ℕ → Type 0
IsIn x [] = ⊥
IsIn x (y ∷ ys) = (x ≡ y) ⊎ IsIn x ys

-- no number stands twice in a list
abbrev pub HasNoRepeats : List ℕ → Type 0
HasNoRepeats [] = Unit {0}
HasNoRepeats (x ∷ xs) = (IsIn x xs → ⊥) × HasNoRepeats xs

-- the legs ks lead from s to t and meet no fix twice; there may be none of them
pub record IsChain (legs : List Leg) (s : ℕ) (ks : List ℕ) (t : ℕ) : Type 0 where
  pub leads : Leads legs s ks t
  pub once : HasNoRepeats (fixes_of_chain legs s ks)

-- a route from s to t is a chain of at least one leg
pub record IsRouteBetween (legs : List Leg) (s t : ℕ) (ks : List ℕ) : Type 0 where
  pub chain : IsChain legs s ks t
  pub some : 1 ≤ length ks

-- a route has one leg fewer than there are fixes, or fewer still
abbrev pub RoutesAreShort : ℕ → List Leg → Type 0
RoutesAreShort fixes legs = (s t : ℕ) (ks : List ℕ) → IsRouteBetween legs s t ks → length ks + 1 ≤ fixes

-- the list p comes before q: the smaller number at the first place where they differ, or p begins q
abbrev pub LexBefore : List ℕ → List ℕ → Type 0
LexBefore [] [] = ⊥
LexBefore [] (y ∷ ys) = Unit {0}
LexBefore (x ∷ xs) [] = ⊥
LexBefore (x ∷ xs) (y ∷ ys) = (x < y) ⊎ ((x ≡ y) × LexBefore xs ys)
