-- The pursuit bound of a chain: a regret that every route which begins with the chain has at least.
--
-- A route that begins with the chain goes on leg by leg, and so does a rival that sees only where the route is.
-- Every leg leads to a higher fix. Of the two, the one at the lower fix moves; at one height the route does, so that
-- the rival sees its move; where both are at one fix, both move. A table has for each two fixes a margin that the rival
-- can be sure of from there on: by how much less time it takes to the destination than the route, in the choice that is
-- worst for the route.
use Rattle.std.specs.Prelude.{◌≡◌, ℕ, ◌+◌, ◌<◌, ◌≤◌, ◌==◌, cond, List, length, ◌≢◌}
use Rattle.chart.specs.declared.leg.Leg.{Leg}
use Rattle.chart.specs.Legs.{leg_at}
use Rattle.chart.specs.Routes.{IsIn, Leads}
use Rattle.chart.specs.Regret.{Query, IsRoute, time, HasRegret, IsWorstChoice}
use Rattle.chart.specs.Floors.{IsPrefix, highs}
use Rattle.pursuit.specs.Rivals.{IsRouteLeg, IsRivalLeg, IsPath}

-- how long the rival's leg f takes where route and rival leave one fix, and the route by the leg e
abbrev pub countermove_time : List Leg → ℕ → ℕ → ℕ
countermove_time legs e f = cond (f == e) (leg_at legs f).high (leg_at legs f).low

-- Margins count from an offset, so that a number can be a margin below zero. Where the table has 0 it has no margin: from there
-- the rival may have no way on. The route is at a, and the rival at b.

-- the margin x is kept where the route takes the leg e
abbrev pub RouteKeeps : Query → (ℕ → ℕ → ℕ) → ℕ → ℕ → ℕ → Type 0
RouteKeeps t margin b x e =
    1 ≤ x → IsRouteLeg t e → (1 ≤ margin (leg_at t.legs e).to b) × (x ≤ margin (leg_at t.legs e).to b + (leg_at t.legs e).high)

-- it is kept by whichever leg the route takes
abbrev pub RouteMoves : Query → (ℕ → ℕ → ℕ) → ℕ → ℕ → ℕ → Type 0
RouteMoves t margin a b x = (e : ℕ) → e < length t.legs → (leg_at t.legs e).from ≡ a → RouteKeeps t margin b x e

-- it is kept where the rival takes the leg f
abbrev pub RivalKeeps : Query → (ℕ → ℕ → ℕ) → ℕ → ℕ → ℕ → Type 0
RivalKeeps t margin a x f = 1 ≤ x → IsRivalLeg t f × (x + (leg_at t.legs f).low ≤ margin a (leg_at t.legs f).to)

-- it is kept by some leg of the rival
abbrev pub RivalMoves : Query → (ℕ → ℕ → ℕ) → ℕ → ℕ → ℕ → Type 0
RivalMoves t margin a b x = 1 ≤ x → (f : ℕ) × ((leg_at t.legs f).from ≡ b) × RivalKeeps t margin a x f

-- where both leave one fix, it is kept where the route takes the leg e, and the rival the leg f as its countermove
abbrev pub CountermoveKeeps : Query → (ℕ → ℕ → ℕ) → ℕ → ℕ → ℕ → Type 0
CountermoveKeeps t margin e x f =
    1 ≤ x → IsRivalLeg t f × (1 ≤ margin (leg_at t.legs e).to (leg_at t.legs f).to)
    × (x + countermove_time t.legs e f ≤ margin (leg_at t.legs e).to (leg_at t.legs f).to + (leg_at t.legs e).high)

-- where both leave a, and the route takes the leg e, it is kept by some countermove of the rival
abbrev pub HasCountermove : Query → (ℕ → ℕ → ℕ) → ℕ → ℕ → ℕ → Type 0
HasCountermove t margin a x e = 1 ≤ x → IsRouteLeg t e → (f : ℕ) × ((leg_at t.legs f).from ≡ a) × CountermoveKeeps t margin e x f

-- and it is so whichever leg the route takes
abbrev pub BothMove : Query → (ℕ → ℕ → ℕ) → ℕ → ℕ → Type 0
BothMove t margin a x = (e : ℕ) → e < length t.legs → (leg_at t.legs e).from ≡ a → HasCountermove t margin a x e

-- the next move keeps the margin x; a route that is higher than the destination has no way on
pub record IsSupported (t : Query) (height : ℕ → ℕ) (offset : ℕ) (margin : ℕ → ℕ → ℕ) (a b x : ℕ) : Type 0 where
  pub both_arrived : a ≡ t.destination → b ≡ t.destination → x ≤ offset
  pub rival_past : a ≡ t.destination → a ≢ b → height a ≤ height b → x ≡ 0
  pub route_moves : a ≢ b → height a ≤ height b → RouteMoves t margin a b x
  pub rival_moves : height b < height a → height a ≤ height t.destination → RivalMoves t margin a b x
  pub both_move : a ≡ b → BothMove t margin a x

-- every leg leads to a higher fix, but for those that no route and no rival has
abbrev pub EveryLegRises : Query → (ℕ → ℕ) → Type 0
EveryLegRises t height = (k : ℕ) → IsRivalLeg t k → height (leg_at t.legs k).from < height (leg_at t.legs k).to

-- for some heights every leg does
abbrev pub HasRisingHeights : Query → Type 0
HasRisingHeights t = (height : ℕ → ℕ) × EveryLegRises t height

-- a table of margins, each of which the next move keeps
pub record IsMarginTable (t : Query) (height : ℕ → ℕ) (offset : ℕ) (margin : ℕ → ℕ → ℕ) : Type 0 where
  pub rises : EveryLegRises t height
  pub supported : (a b : ℕ) → IsSupported t height offset margin a b (margin a b)

-- a rival comes to the fix b in the time d of the choice w, by legs that leave fixes below the height h
pub record RivalReaches (t : Query) (height w : ℕ → ℕ) (h b d : ℕ) : Type 0 where
  pub by : List ℕ
  pub path : IsPath (IsRivalLeg t) t.legs t.source by b
  pub below : (k : ℕ) → IsIn k by → height (leg_at t.legs k).from < h
  pub takes : time w by ≤ d

-- x is a pursuit bound of the chain ks: the chain leads to v, and a rival has come to b, which is no lower than v, in the time
-- d where the chain's legs take their high and all others their low time
pub record IsPursuitBound (t : Query) (ks : List ℕ) (x : ℕ) : Type 0 where
  pub height : ℕ → ℕ
  pub offset : ℕ
  pub margin : ℕ → ℕ → ℕ
  pub table : IsMarginTable t height offset margin
  pub v : ℕ
  pub leads : Leads t.legs t.source ks v
  pub w : ℕ → ℕ
  pub worst : IsWorstChoice t.legs ks w
  pub b : ℕ
  pub d : ℕ
  pub reaches : RivalReaches t height w (height v) b d
  pub onward : height v ≤ height b
  pub has_margin : 1 ≤ margin v b
  pub within : x + d + offset ≤ time (highs t.legs) ks + margin v b

-- no route that begins with the list ks has a regret below x
abbrev pub IsBelowRegrets : Query → List ℕ → ℕ → Type 0
IsBelowRegrets t ks x = (p : List ℕ) → IsRoute t p → IsPrefix ks p → (y : ℕ) → HasRegret t p y → x ≤ y

-- no route that begins with a list has a regret below a pursuit bound of the list
abbrev pub PursuitBoundIsBelowEveryRegret : Type 0
PursuitBoundIsBelowEveryRegret = (t : Query) (ks : List ℕ) (x : ℕ) → IsPursuitBound t ks x → IsBelowRegrets t ks x
