-- Choices of times, what a route loses under one, its regret, and the route of least regret.
use Rattle.std.specs.Prelude.{◌≡◌, ℕ, ◌+◌, ◌<◌, ◌≤◌, ◌⊎◌, List, [], ◌∷◌, length, ◌≢◌}
use Rattle.chart.specs.declared.leg.Leg.{Leg}
use Rattle.chart.specs.Legs.{leg_at}
use Rattle.chart.specs.Routes.{IsIn, IsRouteBetween, LexBefore}

-- where a route is wanted: on which legs, from which fix and to which
pub record Query : Type 0 where
  pub legs : List Leg
  pub source : ℕ
  pub destination : ℕ

abbrev pub query : List Leg → ℕ → ℕ → Query
query legs source destination = record { legs = legs; source = source; destination = destination }

-- the legs ks are a route of the query
abbrev pub IsRoute : Query → List ℕ → Type 0
IsRoute t ks = IsRouteBetween t.legs t.source t.destination ks

-- c is a choice of times: the time of each leg lies between its low and its high
abbrev pub IsChoice : List Leg → (ℕ → ℕ) → Type 0
IsChoice legs c = (k : ℕ) → k < length legs → ((leg_at legs k).low ≤ c k) × (c k ≤ (leg_at legs k).high)

-- the time of the legs ks in a choice is the sum over them
abbrev pub time : (ℕ → ℕ) → List ℕ → ℕ
time c [] = 0
time c (k ∷ ks) = c k + time c ks

-- x is the least time of any route in the choice c
pub record IsLeastTime (t : Query) (c : ℕ → ℕ) (x : ℕ) : Type 0 where
  pub by : List ℕ
  pub is_route : IsRoute t by
  pub takes : time c by ≡ x
  pub least : (r : List ℕ) → IsRoute t r → x ≤ time c r

-- in the choice c, the list p takes x longer than the least time of any route
pub record Loses (t : Query) (c : ℕ → ℕ) (p : List ℕ) (x : ℕ) : Type 0 where
  pub best : ℕ
  pub least : IsLeastTime t c best
  pub difference : time c p ≡ best + x

-- the regret of p is x: p loses x in some choice, and in no choice more
pub record HasRegret (t : Query) (p : List ℕ) (x : ℕ) : Type 0 where
  pub choice : ℕ → ℕ
  pub chosen : IsChoice t.legs choice
  pub loses : Loses t choice p x
  pub most : (c : ℕ → ℕ) (y : ℕ) → IsChoice t.legs c → Loses t c p y → y ≤ x

-- less regret, or as much and a list that comes first
abbrev pub IsPreferred : ℕ → List ℕ → ℕ → List ℕ → Type 0
IsPreferred x p y q = (x < y) ⊎ ((x ≡ y) × LexBefore p q)

-- p is the route of least regret, and its regret is x: every other route has more,
-- or as much and a list that comes later
pub record IsLeastRegret (t : Query) (p : List ℕ) (x : ℕ) : Type 0 where
  pub is_route : IsRoute t p
  pub regret : HasRegret t p x
  pub first : (q : List ℕ) (y : ℕ) → IsRoute t q → (q ≢ p) → HasRegret t q y → IsPreferred x p y q

-- the choice w takes the high time on p's own legs and the low time on all others
pub record IsWorstChoice (legs : List Leg) (p : List ℕ) (w : ℕ → ℕ) : Type 0 where
  pub on : (k : ℕ) → IsIn k p → w k ≡ (leg_at legs k).high
  pub off : (k : ℕ) → (IsIn k p → ⊥) → w k ≡ (leg_at legs k).low

-- in the choice that is worst for a route, it loses its regret
abbrev pub WorstChoiceGivesRegret : Type 0
WorstChoiceGivesRegret = (t : Query) (p : List ℕ) (w : ℕ → ℕ) (b x : ℕ) →
    IsRoute t p → IsWorstChoice t.legs p w → IsLeastTime t w b → time w p ≡ b + x → HasRegret t p x

-- in no choice does a route take longer than another one by more than its regret
abbrev pub RegretIsNeverExceeded : Type 0
RegretIsNeverExceeded = (t : Query) (p : List ℕ) (x : ℕ) → HasRegret t p x →
    (c : ℕ → ℕ) → IsChoice t.legs c → (q : List ℕ) → IsRoute t q → time c p ≤ time c q + x

-- no route is without a regret
abbrev pub EveryRouteHasARegret : Type 0
EveryRouteHasARegret = (t : Query) (p : List ℕ) → IsRoute t p → ((x : ℕ) → HasRegret t p x → ⊥) → ⊥

-- a list has one regret at most
abbrev pub RegretIsUnique : Type 0
RegretIsUnique = (t : Query) (p : List ℕ) (x y : ℕ) → HasRegret t p x → HasRegret t p y → x ≡ y

-- there is one route of least regret at most
abbrev pub LeastRegretIsUnique : Type 0
LeastRegretIsUnique = (t : Query) (p q : List ℕ) (x y : ℕ) →
    IsLeastRegret t p x → IsLeastRegret t q y → (p ≡ q) × (x ≡ y)
