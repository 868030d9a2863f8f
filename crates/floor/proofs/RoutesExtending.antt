-- The routes that begin with a chain, from the chains that lead on from its end over fixes that it does not meet.
use Rattle.std.proofs.Common.{◌≡◌, ℕ, ◌+◌, ◌*◌, ◌<◌, ◌≤◌, Bool, false, List, [], ◌∷◌, ◌++◌, length, get_or, None, sym, refl, ap, ◌∙◌, subst, arith}
use Rattle.std.proofs.lemmas.Bool.{false_from_ne_true}
use Rattle.chart.specs.declared.leg.Leg.{Leg}
use Rattle.chart.specs.Limits.{max_fixes, max_seconds}
use Rattle.chart.specs.Legs.{leg_at, IsChart}
use Rattle.chart.specs.Routes.{fixes_entered, fixes_of_chain, HasNoRepeats, IsChain, IsRouteBetween}
use Rattle.chart.specs.Regret.{query, time}
use Rattle.chart.specs.Floors.{LeavesSource, highs, IsLeastExtension, NoRouteExtends}
use Rattle.chart.proofs.Chains.{leads_on, fixes_entered_append, end_in_chain}
use Rattle.chart.proofs.ShortRoutes.{chain_short}
use Rattle.chart.proofs.RouteEnds.{route_leaves_fix}
use Rattle.search.specs.Walks.{IsWalk, IsNoChain}
use Rattle.search.proofs.LongerWalks.{true_false}
use Rattle.regret.proofs.WorstChoice.{in_fixes_entered}
use Rattle.search.proofs.WalkedChains.{highs_small, time_join}
use Rattle.regret.proofs.RegretFromBest.{chain_is_route}
use Rattle.floor.specs.internal.Onward.{AvoidsUsed, IsLeastAvoiding, LeastOnward}
use Rattle.floor.proofs.FixesOfChains.{entered_by}
use Rattle.floor.proofs.JoinedLists.{parts_apart, no_repeats_right, no_repeats_append, leads_join}

module _ (legs : List Leg) (s t : ℕ) (ks : List ℕ) (z : ℕ) (used : List Bool) (walk : IsWalk legs s ks z used) where
  -- what a chain that begins with the walk goes on by
  chain_on : (rest : List ℕ) → IsChain legs s (ks ++ rest) t → IsChain legs z rest t × AvoidsUsed legs used rest
  chain_on rest c =
      let all : HasNoRepeats (fixes_of_chain legs s ks ++ fixes_entered legs rest) = subst (λ vs. HasNoRepeats (s ∷ vs)) (fixes_entered_append legs ks rest) c.once in (
        record {
          leads = leads_on legs ks rest s z t walk.chain.leads c.leads;
          once = (λ i. parts_apart (fixes_of_chain legs s ks) (fixes_entered legs rest) z (end_in_chain legs ks s z walk.chain.leads) i all, no_repeats_right (fixes_of_chain legs s ks) (fixes_entered legs rest) all);
        },
        λ k i. false_from_ne_true _ (λ e. parts_apart (fixes_of_chain legs s ks) (fixes_entered legs rest) (leg_at legs k).to (walk.flags.back _ e) (in_fixes_entered legs rest k i) all),
      )

  -- a chain from its end that enters none of its fixes goes on from it
  chain_joined : (rest : List ℕ) → IsChain legs z rest t → AvoidsUsed legs used rest → IsChain legs s (ks ++ rest) t
  chain_joined rest c off = record {
    leads = leads_join legs ks rest s z t walk.chain.leads c.leads;
    once = subst (λ vs. HasNoRepeats (s ∷ vs)) (sym (fixes_entered_append legs ks rest)) (no_repeats_append (fixes_of_chain legs s ks) (fixes_entered legs rest) walk.chain.once c.once.1 (λ x i j.
        let m = entered_by legs rest x j in
        true_false _ (walk.flags.on x i) (ap (λ y. get_or used y false) m.2 ∙ off m.0 m.1)));
  }

  -- where nothing leads on, no route begins with the chain
  pub no_route_extends : LeastOnward legs used z t None → NoRouteExtends (query legs s t) ks
  no_route_extends n q is_route b =
      let c = chain_on b.0 (subst (λ l. IsChain legs s l t) b.1 is_route.chain) in
      n b.0 c.0 c.1

  module _ (x : ℕ) (onward : IsLeastAvoiding legs used z t x) where
    -- the least high time onward, added to the chain's own, is the least of the routes that begin with it
    pub least_extension_by : (high : ℕ) → high ≡ time (highs legs) ks → (q : List ℕ) → IsRouteBetween legs s t q → IsLeastExtension (query legs s t) ks (high + x)
    least_extension_by high sums q route =
        let rest = onward.by in
        record {
          by = ks ++ rest;
          is_route = chain_is_route legs s t t (ks ++ rest) (chain_joined rest onward.chain onward.off) refl q route;
          extends = (rest, refl);
          takes = let e = time_join (highs legs) ks rest in omega (arith, onward.takes);
          least = λ r is_route b.
              let c = chain_on b.0 (subst (λ l. IsChain legs s l t) b.1 is_route.chain) in
              let le = onward.least b.0 c.0 c.1 in
              let e : time (highs legs) r ≡ time (highs legs) ks + time (highs legs) b.0 = ap (time (highs legs)) b.1 ∙ time_join (highs legs) ks b.0 in
              omega arith;
        }

    -- and is small
    pub least_extension_small : {fixes : ℕ} → IsChart fixes legs → s < fixes → (high : ℕ) → high ≡ time (highs legs) ks → high + x ≤ max_seconds * max_fixes
    least_extension_small {fixes = fixes} is_chart lt high sums =
        let all = ks ++ onward.by in
        let few = chain_short fixes legs is_chart all s t lt (chain_joined onward.by onward.chain onward.off) in
        let small = highs_small legs all in
        let e = time_join (highs legs) ks onward.by in
        omega (arith, is_chart.most, onward.takes)

-- from a number that is no fix, only the empty list is a chain, and there is no route
module _ {fixes : ℕ} (legs : List Leg) (is_chart : IsChart fixes legs) (s t : ℕ) (ks : List ℕ) (stuck : s < fixes → IsNoChain legs s ks) where
  pub empty_no_route : length ks ≡ 0 → LeavesSource (query legs s t) ks × NoRouteExtends (query legs s t) ks
  empty_no_route none =
      let nothing = empty_chain ks none in
      ((s, nothing), λ q is_route b. stuck (route_leaves_fix legs is_chart s t q is_route) s nothing)
    where
      empty_chain : (js : List ℕ) → length js ≡ 0 → IsChain legs s js s
      empty_chain [] e = record { leads = refl; once = ((λ i. i), tt) }
      empty_chain (j ∷ js) e = absurd (omega arith)

  pub some_no_chain : 1 ≤ length ks → LeavesSource (query legs s t) ks → ⊥
  some_no_chain some starts =
      stuck (route_leaves_fix legs is_chart s starts.0 ks (record { chain = starts.1; some = some })) starts.0 starts.1
