-- A pursuit bound is below the regret of every route that begins with the chain.
use Rattle.std.proofs.Common.{◌≡◌, ℕ, ◌<◌, ◌≤◌, List, ◌++◌, sym, ap, ◌∙◌, subst, ⊎_elim, arith}
use Rattle.chart.specs.declared.leg.Leg.{Leg}
use Rattle.chart.specs.Legs.{leg_at}
use Rattle.chart.specs.Routes.{IsIn}
use Rattle.chart.specs.Regret.{Query, IsRoute, IsChoice, HasRegret}
use Rattle.chart.specs.Floors.{highs}
use Rattle.chart.proofs.Chains.{leads_on, in_append_left}
use Rattle.regret.proofs.WorstChoice.{in_or, time_same}
use Rattle.regret.proofs.EveryRouteHasRegret.{worst_of, worst_is}
use Rattle.search.proofs.WalkedChains.{time_join}
use Rattle.chart.proofs.Chains.{in_append_right, in_append}
use Rattle.pursuit.specs.Rivals.{IsRouteLeg, IsRivalLeg, IsPath}
use Rattle.pursuit.specs.Pursuits.{IsPursuitBound, PursuitBoundIsBelowEveryRegret}
use Rattle.pursuit.proofs.Paths.{path_join, path_leaves, path_leaves_below, leads_path, route_legs, route_leg_is_rival_leg}
use Rattle.pursuit.proofs.RivalsAreRoutes.{path_is_rival, regret_covers_rival}
use Rattle.pursuit.proofs.KeptMargins.{IsPosition, kept}

-- the worst choice for a list is a choice of times
worst_chosen : (legs : List Leg) (p : List ℕ) → IsChoice legs (worst_of legs p)
worst_chosen legs p k lt = let w = worst_is legs p in grind (arith, w.on k, w.off k, in_or k p, (leg_at legs k).ordered)

-- a route that begins with the chain ks and goes on by `rest`
module _ (t : Query) (ks rest : List ℕ) (x : ℕ) (bound : IsPursuitBound t ks x) (is_route : IsRoute t (ks ++ rest)) where
  abbrev w : ℕ → ℕ
  w = worst_of t.legs (ks ++ rest)

  legs : (k : ℕ) → IsIn k (ks ++ rest) → IsRouteLeg t k
  legs = route_legs t (ks ++ rest) is_route

  rises : (k : ℕ) → IsRouteLeg t k → bound.height (leg_at t.legs k).from < bound.height (leg_at t.legs k).to
  rises k l = bound.table.rises k (route_leg_is_rival_leg t k l)

  onward : IsPath (IsRouteLeg t) t.legs bound.v rest t.destination
  onward = leads_path (IsRouteLeg t) t.legs rest bound.v t.destination (leads_on t.legs ks rest t.source bound.v t.destination bound.leads is_route.chain.leads) (λ k i. legs k (in_append_right ks rest k i))

  -- the chain leaves fixes lower than its end, and what follows does not
  before : (k : ℕ) → IsIn k ks → bound.height (leg_at t.legs k).from < bound.height bound.v
  before =
      path_leaves_below (IsRouteLeg t) t.legs bound.height rises ks t.source bound.v
      (leads_path (IsRouteLeg t) t.legs ks t.source bound.v bound.leads (λ k i. legs k (in_append_left ks rest k i)))

  after : (k : ℕ) → IsIn k rest → bound.height bound.v ≤ bound.height (leg_at t.legs k).from
  after = path_leaves (IsRouteLeg t) t.legs bound.height rises rest bound.v t.destination onward

  on : (k : ℕ) → IsIn k (ks ++ rest) → w k ≡ (leg_at t.legs k).high
  on = (worst_is t.legs (ks ++ rest)).on

  -- a leg that is neither of the chain nor of what follows
  off : (k : ℕ) → (IsIn k ks → ⊥) → (IsIn k rest → ⊥) → w k ≡ (leg_at t.legs k).low
  off k n m = (worst_is t.legs (ks ++ rest)).off k (λ i. ⊎_elim n m (in_append ks rest k i))

  -- as long as the rival is below the end of the chain, only the chain's own legs are high
  same_before : (k : ℕ) → IsIn k bound.reaches.by → w k ≡ bound.w k
  same_before k i =
      let below = bound.reaches.below k i in
      ⊎_elim
      (λ j. on k (in_append_left ks rest k j) ∙ sym (bound.worst.on k j))
      (λ n. off k n (λ j. let a = after k j in omega arith) ∙ sym (bound.worst.off k n))
      (in_or k ks)

  position : IsPosition bound.table w rest bound.v bound.b
  position = record {
    path = onward;
    on = λ k i. on k (in_append_right ks rest k i);
    off = λ k n s. off k (λ j. let l = before k j in let o = bound.onward in ⊎_elim (λ e. let h : bound.height (leg_at t.legs k).from ≡ bound.height bound.b = ap bound.height e in omega arith) (λ h. omega arith) s) n;
    has_margin = bound.has_margin;
  }

  below_regret : (y : ℕ) → HasRegret t (ks ++ rest) y → x ≤ y
  below_regret y regret =
      let kept = kept bound.table w rest bound.v bound.b position in
      let r = bound.reaches.by ++ kept.by in
      let path = path_join (IsRivalLeg t) t.legs bound.reaches.by kept.by t.source bound.b t.destination bound.reaches.path kept.path in
      let rival = path_is_rival t bound.height bound.table.rises r path (ks ++ rest) is_route in
      let never = regret_covers_rival t (ks ++ rest) y regret w (worst_chosen t.legs (ks ++ rest)) r rival in
      let whole = time_join w ks rest in
      let chain = time_same w (highs t.legs) ks (λ k i. on k (in_append_left ks rest k i)) in
      let theirs = time_join w bound.reaches.by kept.by in
      let come = time_same w bound.w bound.reaches.by same_before in
      omega (arith, bound.within, bound.reaches.takes, kept.keeps)

pub pursuit_bound_is_below_every_regret : PursuitBoundIsBelowEveryRegret
pursuit_bound_is_below_every_regret t ks x bound p is_route prefix y regret =
    below_regret t ks prefix.0 x bound (subst (λ l. IsRoute t l) prefix.1 is_route) y (subst (λ l. HasRegret t l y) prefix.1 regret)
