-- The floor of a chain is below the regret of every route that begins with it, is never negative, and is one number.
use Rattle.std.proofs.Common.{◌≡◌, ℕ, ◌-◌, ◌<◌, ◌≤◌, List, length, sym, subst, ⊎_elim, arith}
use native.Mathlib.Decide.{dec_le}
use Rattle.std.proofs.lemmas.Bool.{cases_eq}
use Rattle.chart.specs.declared.leg.Leg.{Leg}
use Rattle.chart.specs.Legs.{leg_at}
use Rattle.chart.specs.Routes.{IsIn}
use Rattle.chart.specs.Regret.{Query, IsRoute, time, IsLeastTime}
use Rattle.chart.specs.Floors.{IsPrefix, highs, IsShut, IsFloorChoice, FloorIsBelowEveryRegret, FloorIsNeverNegative, FloorIsUnique}
use Rattle.chart.proofs.Chains.{in_append_left}
use Rattle.regret.proofs.EveryRouteHasRegret.{worst_of, worst_is, least_not_absent}
use Rattle.regret.proofs.WorstChoice.{in_or, legs_there, worst_choice_gives_regret, regret_is_unique, time_le, time_same}
use Rattle.floor.proofs.FixesOfChains.{enters_no_fix_twice, leaves_no_fix_twice}

-- a shut leg is on no route that begins with the list
shut_not_on_route : (t : Query) (ks p : List ℕ) → IsRoute t p → IsPrefix ks p → (k : ℕ) → IsShut t.legs ks k → IsIn k p → ⊥
shut_not_on_route t ks p is_route b k shut i =
    let j : IsIn shut.shutting p = subst (λ l. IsIn shut.shutting l) (sym b.1) (in_append_left ks b.0 shut.shutting shut.inside) in
    let same : k ≡ shut.shutting = ⊎_elim (λ e. leaves_no_fix_twice t.legs p t.source t.destination is_route.chain.leads is_route.chain.once k shut.shutting i j e) (λ e. enters_no_fix_twice t.legs p is_route.chain.once.1 k shut.shutting i j e) shut.shares in
    shut.outside (subst (λ n. IsIn n ks) (sym same) shut.inside)

module _ (legs : List Leg) (ks : List ℕ) where
  -- what holds of the low and of the high time holds of the time that is taken, so far as numbers compare
  floor_choice_above_low : (v : ℕ → ℕ) → IsFloorChoice legs ks v → (k : ℕ) → k < length legs → (leg_at legs k).low ≤ v k
  floor_choice_above_low v floor_choice k lt = grind (arith, (leg_at legs k).ordered, floor_choice.on k lt, floor_choice.off k lt)

  floor_choice_below_high : (v : ℕ → ℕ) → IsFloorChoice legs ks v → (k : ℕ) → k < length legs → v k ≤ (leg_at legs k).high
  floor_choice_below_high v floor_choice k lt = grind (arith, (leg_at legs k).ordered, floor_choice.on k lt, floor_choice.off k lt)

  floor_choice_same : (v w : ℕ → ℕ) → IsFloorChoice legs ks v → IsFloorChoice legs ks w → (k : ℕ) → k < length legs → v k ≡ w k
  floor_choice_same v w a b k lt = grind (arith, a.on k lt, a.off k lt, b.on k lt, b.off k lt, cases_eq (v k) (w k))

-- the legs of a route are legs of the chart
route_legs_there : (t : Query) (q : List ℕ) → IsRoute t q → (k : ℕ) → IsIn k q → k < length t.legs
route_legs_there t q is_route = legs_there t.legs q t.source t.destination is_route.chain.leads

-- the choice that is worst for a route which begins with the list is nowhere above the floor choice
worst_below_floor_choice : (t : Query) (ks : List ℕ) (v : ℕ → ℕ) → IsFloorChoice t.legs ks v → (p : List ℕ) → IsRoute t p → IsPrefix ks p → (k : ℕ) → k < length t.legs → worst_of t.legs p k ≤ v k
worst_below_floor_choice t ks v floor_choice p is_route b k lt =
    let w = worst_is t.legs p in
    grind (arith, w.on k, w.off k, floor_choice.off k lt, shut_not_on_route t ks p is_route b k, floor_choice_above_low t.legs ks v floor_choice k lt, in_or k p)

pub floor_is_never_negative : FloorIsNeverNegative
floor_is_never_negative t ks a b v near floor_choice least =
    let below = least.least near.by near.is_route in
    let under = time_le v (highs t.legs) near.by (λ k i. floor_choice_below_high t.legs ks v floor_choice k (route_legs_there t near.by near.is_route k i)) in
    omega (arith, near.takes)

pub floor_is_below_every_regret : FloorIsBelowEveryRegret
floor_is_below_every_regret t ks x floor p is_route b y regret =
    let w = worst_of t.legs p in
    let by = floor.least.by in
    elim (dec_le x y) [
      | yes h ↦ h
      | no n ↦
          absurd (least_not_absent t w p is_route (λ c least.
          let difference = least.least p is_route in
          let exact = worst_choice_gives_regret t p w c (time w p - c) is_route (worst_is t.legs p) least (omega arith) in
          let same = regret_is_unique t p y (time w p - c) regret exact in
          let high : time (highs t.legs) p ≡ time w p = time_same (highs t.legs) w p (λ k i. sym ((worst_is t.legs p).on k i)) in
          let near = floor.extension.least p is_route b in
          let quick = least.least by floor.least.is_route in
          let under = time_le w floor.v by (λ k i. worst_below_floor_choice t ks floor.v floor.floor_choice p is_route b k (route_legs_there t by floor.least.is_route k i)) in
          n (omega (arith, floor.least.takes, floor.difference))))
    ]

-- a least time in one of two choices that agree on every leg is not above the least in the other
least_below : (t : Query) (v w : ℕ → ℕ) → ((k : ℕ) → k < length t.legs → v k ≡ w k) → (b c : ℕ) → IsLeastTime t v b → IsLeastTime t w c → b ≤ c
least_below t v w same b c one other =
    let e = time_same v w other.by (λ k i. same k (route_legs_there t other.by other.is_route k i)) in
    omega (arith, one.least other.by other.is_route, other.takes)

pub floor_is_unique : FloorIsUnique
floor_is_unique t ks x y one other =
    let same = floor_choice_same t.legs ks one.v other.v one.floor_choice other.floor_choice in
    let b = least_below t one.v other.v same one.b other.b one.least other.least in
    let c = least_below t other.v one.v (λ k lt. sym (same k lt)) other.b one.b other.least one.least in
    let near = one.extension.least other.extension.by other.extension.is_route other.extension.extends in
    let far = other.extension.least one.extension.by one.extension.is_route one.extension.extends in
    omega (arith, one.extension.takes, other.extension.takes, one.difference, other.difference)
