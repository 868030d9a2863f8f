-- The floor of a chain: a regret that every route which begins with the chain has at least.
use Rattle.std.specs.Prelude.{◌≡◌, ℕ, ◌+◌, ◌<◌, ◌≤◌, ◌⊎◌, List, ◌++◌, length}
use Rattle.chart.specs.declared.leg.Leg.{Leg}
use Rattle.chart.specs.Legs.{leg_at}
use Rattle.chart.specs.Routes.{IsIn, IsChain}
use Rattle.chart.specs.Regret.{Query, IsRoute, time, IsLeastTime, HasRegret}

-- the legs ks are a chain that leaves the query's source
abbrev pub LeavesSource : Query → List ℕ → Type 0
LeavesSource t ks = (v : ℕ) × IsChain t.legs t.source ks v

-- the list q begins with ks
abbrev pub IsPrefix : List ℕ → List ℕ → Type 0
IsPrefix ks q = (rest : List ℕ) × (q ≡ ks ++ rest)

-- every leg at its high time
abbrev pub highs : List Leg → ℕ → ℕ
highs legs k = (leg_at legs k).high

-- the leg k is shut by ks: it is not one of them, and leaves a fix that one of them leaves
-- or enters one that one of them enters
pub record IsShut (legs : List Leg) (ks : List ℕ) (k : ℕ) : Type 0 where
  pub outside : IsIn k ks → ⊥
  pub shutting : ℕ
  pub inside : IsIn shutting ks
  pub shares : ((leg_at legs k).from ≡ (leg_at legs shutting).from) ⊎ ((leg_at legs k).to ≡ (leg_at legs shutting).to)

-- the choice v takes the low time on shut legs and the high time on all others
pub record IsFloorChoice (legs : List Leg) (ks : List ℕ) (v : ℕ → ℕ) : Type 0 where
  pub on : (k : ℕ) → k < length legs → IsShut legs ks k → v k ≡ (leg_at legs k).low
  pub off : (k : ℕ) → k < length legs → (IsShut legs ks k → ⊥) → v k ≡ (leg_at legs k).high

-- a is the least high-time total of the routes that begin with ks
pub record IsLeastExtension (t : Query) (ks : List ℕ) (a : ℕ) : Type 0 where
  pub by : List ℕ
  pub is_route : IsRoute t by
  pub extends : IsPrefix ks by
  pub takes : time (highs t.legs) by ≡ a
  pub least : (r : List ℕ) → IsRoute t r → IsPrefix ks r → a ≤ time (highs t.legs) r

-- the floor of ks is x, which is a less b; b is the least time that some route has in the choice that is low on the
-- shut legs and high elsewhere
pub record IsFloor (t : Query) (ks : List ℕ) (x : ℕ) : Type 0 where
  pub a : ℕ
  pub b : ℕ
  pub v : ℕ → ℕ
  pub extension : IsLeastExtension t ks a
  pub floor_choice : IsFloorChoice t.legs ks v
  pub least : IsLeastTime t v b
  pub difference : a ≡ b + x

-- no route begins with ks
abbrev pub NoRouteExtends : Query → List ℕ → Type 0
NoRouteExtends t ks = (q : List ℕ) → IsRoute t q → IsPrefix ks q → ⊥

-- no route that begins with a list has less regret than the list's floor
abbrev pub FloorIsBelowEveryRegret : Type 0
FloorIsBelowEveryRegret = (t : Query) (ks : List ℕ) (x : ℕ) → IsFloor t ks x →
    (p : List ℕ) → IsRoute t p → IsPrefix ks p → (y : ℕ) → HasRegret t p y → x ≤ y

-- of the two totals of a floor, the second is never above the first
abbrev pub FloorIsNeverNegative : Type 0
FloorIsNeverNegative = (t : Query) (ks : List ℕ) (a b : ℕ) (v : ℕ → ℕ) →
    IsLeastExtension t ks a → IsFloorChoice t.legs ks v → IsLeastTime t v b → b ≤ a

-- a list has one floor at most
abbrev pub FloorIsUnique : Type 0
FloorIsUnique = (t : Query) (ks : List ℕ) (x y : ℕ) → IsFloor t ks x → IsFloor t ks y → x ≡ y
