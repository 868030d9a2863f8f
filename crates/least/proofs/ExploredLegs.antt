-- The search over all routes that begin with a chain.
use Rattle.std.proofs.Common.{◌≡◌, ℕ, ◌+◌, ◌-◌, ◌*◌, ◌<◌, ◌≤◌, true, false, List, [], ◌∷◌, ◌++◌, length, get_or, take, set, Some, Option, sym, refl, ap, ◌∙◌, subst, inr, arith, length-set, length-append}
use Rattle.std.proofs.lemmas.List.{take_at, append_assoc, append-nil, set-set, set-get_or}
use Rattle.std.proofs.lemmas.Bool.{cases_eq, cases_lt, false_from_ne_true}
use Rattle.arrayvec.specs.ArrayVec.{ArrayVec}
use Rattle.chart.specs.declared.leg.Leg.{Leg}
use Rattle.chart.specs.Limits.{max_fixes, max_legs, max_seconds}
use Rattle.chart.specs.Legs.{leg_at}
use Rattle.chart.specs.Routes.{Leads, IsChain}
use Rattle.chart.specs.Regret.{Query, IsRoute, time}
use Rattle.chart.specs.Floors.{IsPrefix, highs}
use Rattle.chart.proofs.Chains.{leads_end}
use Rattle.chart.proofs.ShortRoutes.{chain_short}
use Rattle.chart.proofs.RouteEnds.{route_goes_away}
use Rattle.search.specs.LegsLeaving.{legs_leaving}
use Rattle.search.specs.Snapshots.{snapshot_legs}
use Rattle.search.specs.laws.SnapshotLaws.{snapshot_is_chart}
use Rattle.search.proofs.LegsLeaving.{leaving_ends, leaving_goes_on}
use Rattle.search.specs.Walks.{AreFlagsOf, IsWalk, CanStep, StepAnswer}
use Rattle.search.proofs.LongerWalks.{flags_push, true_false, walk_push, chain_steps}
use Rattle.search.proofs.WalkedChains.{highs_small, step_is_small_leg, time_join}
use Rattle.regret.proofs.WorstChoice.{in_fixes_entered}
use Rattle.least.specs.declared.branch_and_bound.Incumbent.{Incumbent}
use Rattle.least.specs.declared.branch_and_bound.BranchAndBound.{BranchAndBound}
use Rattle.least.specs.internal.BranchAndBound.{searched_query, IsSearched, ChangesOnlyIncumbent, ExtendsBy, ExtendsBelow, IsReady}
use Rattle.least.proofs.SearchedParts.{searched_none, searched_both, searched_of}

-- the legs of a chain after its first few are a chain
chain_back : (legs : List Leg) (ks ms : List ℕ) (s z t : ℕ) → Leads legs s ks z → IsChain legs s (ks ++ ms) t → IsChain legs z ms t
chain_back legs [] ms s z t e c = subst (λ y. IsChain legs y ms t) e c
chain_back legs (k ∷ ks) ms s z t l c = chain_back legs ks ms (leg_at legs k).to z t l.1 (record { leads = c.leads.1; once = c.once.1 })

-- what the legs explored keep, from s to s', where it has come to the legs from the number `low` on: it has searched the routes
-- that go on below `low`, the legs left are the others that leave the fix, and only its incumbent may have changed
pub record LegsExplored (s : BranchAndBound) (here : ℕ) (s' : BranchAndBound) (left : List ℕ) : Type 0 where
  pub low : ℕ
  pub others : left ≡ legs_leaving (searched_query s).legs here low
  pub searched : IsSearched (searched_query s) s.incumbent s'.incumbent (ExtendsBelow s.chain.items low)
  pub only_incumbent : ChangesOnlyIncumbent s s'

module _ {s : BranchAndBound} {here : ℕ} (ready : IsReady s here) where
  abbrev t : Query
  t = searched_query s

  abbrev ks : List ℕ
  ks = s.chain.items

  pub depth_small : length s.chain.items < max_fixes
  depth_small =
      let is_chart = snapshot_is_chart s.snapshot.now in
      let short = chain_short _ (snapshot_legs s.snapshot.now) is_chart ks t.source here ready.leaves ready.walk.chain in
      omega (arith, is_chart.most)

  -- at the destination, no other route begins with the chain
  ends_there : (rest : List ℕ) → here ≡ t.destination → IsRoute t (ks ++ rest) → rest ≡ []
  ends_there [] e r = refl
  ends_there (k ∷ rest) e r =
      let back = chain_back t.legs ks (k ∷ rest) t.source here t.destination ready.walk.chain.leads r.chain in
      absurd (route_goes_away t.legs here (k ∷ rest) (record { chain = subst (λ y. IsChain t.legs here (k ∷ rest) y) (sym e) back; some = omega arith }))

  pub only_itself : here ≡ s.ends.to → (q : List ℕ) → IsRoute (searched_query s) q → IsPrefix s.chain.items q → q ≡ s.chain.items
  only_itself e q is_route b =
      let z = ends_there b.0 e (subst (λ l. IsRoute t l) b.1 is_route) in
      b.1 ∙ ap (λ r. ks ++ r) z ∙ append-nil ks

  -- a route goes on by a leg that leads on from here
  steps_on : (k : ℕ) (rest q : List ℕ) → IsRoute t q → q ≡ ks ++ k ∷ rest → CanStep t.legs here s.used k
  steps_on k rest q is_route e = chain_steps t.legs t.source ks here s.used ready.walk k t.destination rest (subst (λ l. IsRoute t l) e is_route).chain

  -- elsewhere a route that begins with the chain goes on by a leg
  goes_on : (here ≡ t.destination → ⊥) → (q : List ℕ) → IsRoute t q → (rest : List ℕ) → q ≡ ks ++ rest → ExtendsBelow ks (length t.legs) q
  goes_on ne q is_route [] e =
      absurd (ne (leads_end t.legs ks t.source here t.destination ready.walk.chain.leads (subst (λ l. Leads t.legs t.source l t.destination) (e ∙ append-nil ks) is_route.chain.leads)))
  goes_on ne q is_route (k ∷ rest) e = (k, (steps_on k rest q is_route e).leaves.there, (rest, e))

  -- a leg that does not lead on
  pub stuck : (k : ℕ) → (CanStep (snapshot_legs s.snapshot.now) here s.used k → ⊥) → IsSearched (searched_query s) s.incumbent s.incumbent (ExtendsBy s.chain.items k)
  stuck k n = searched_none ready.is_valid (λ q is_route g. absurd (n (steps_on k g.0 q is_route g.1)))

  -- a leg that leads on
  module _ (k : ℕ) (leg : Leg) (on : StepAnswer (snapshot_legs s.snapshot.now) here s.used k (Some leg)) where
    is : leg.to ≡ (leg_at (snapshot_legs s.snapshot.now) k).to
    is = ap (λ (l : Leg). l.to) on.0

    pub to_small : leg.to < max_fixes
    to_small = (step_is_small_leg (snapshot_legs s.snapshot.now) (snapshot_is_chart s.snapshot.now) here s.used k leg on.0 on.1).to_small

    takes : leg.high ≡ (leg_at (snapshot_legs s.snapshot.now) k).high
    takes = ap (λ (l : Leg). l.high) on.0

    pub number_small : k < max_legs
    number_small = (step_is_small_leg (snapshot_legs s.snapshot.now) (snapshot_is_chart s.snapshot.now) here s.used k leg on.0 on.1).number_small

    -- its high time fits beside those of the chain
    pub sum_small : s.high + leg.high ≤ max_seconds * max_fixes
    sum_small =
        let small = highs_small (snapshot_legs s.snapshot.now) ks in
        omega (arith, depth_small, ready.sums, leg.bounded)

    -- it is not yet flagged, since the fix that it enters is not used
    unflagged : get_or s.flags k false ≡ false
    unflagged = false_from_ne_true _ (λ e.
        true_false _ (ready.walk.flags.on (leg_at t.legs k).to (inr (in_fixes_entered t.legs ks k (ready.flagged.back k e)))) on.1.fresh)

    -- and is put at the end of the chain
    module _ (chain : ArrayVec ℕ) (pushed : chain.items ≡ s.chain.items ++ k ∷ []) where
      abbrev deeper : BranchAndBound
      deeper = record s { chain = chain; used = set s.used leg.to true; flags = set s.flags k true; high = s.high + leg.high }

      pub ready_deeper : IsReady deeper leg.to
      ready_deeper = record {
        leaves = ready.leaves;
        useds = length-set s.used leg.to true ∙ ready.useds;
        places = length-set s.flags k true ∙ ready.places;
        walk = subst (λ l. IsWalk t.legs t.source l leg.to (set s.used leg.to true)) (sym pushed)
            (subst (λ y. IsWalk t.legs t.source (ks ++ k ∷ []) y (set s.used y true)) (sym is)
            (walk_push t.legs t.source ks here s.used ready.walk k on.1 (omega (arith, is, to_small, ready.useds))));
        flagged = subst (λ l. AreFlagsOf (set s.flags k true) l) (sym pushed) (flags_push s.flags ks k (omega (arith, number_small, ready.places)) ready.flagged);
        sums =
            let j = time_join (highs t.legs) ks (k ∷ []) in
            let sum : s.high + leg.high ≡ time (highs t.legs) (ks ++ k ∷ []) = omega (arith, ready.sums, takes) in
            sum ∙ ap (time (highs t.legs)) (sym pushed);
        is_valid = ready.is_valid;
        pursued = ready.pursued;
      }

      pub searched_deeper : {incumbent : Option Incumbent} → IsSearched (searched_query s) s.incumbent incumbent (IsPrefix chain.items) → IsSearched (searched_query s) s.incumbent incumbent (ExtendsBy s.chain.items k)
      searched_deeper w = searched_of w (λ q is_route g. (g.0, g.1 ∙ sym (append_assoc ks (k ∷ []) g.0) ∙ ap (λ l. l ++ g.0) (sym pushed)))

      module _ (s₂ : BranchAndBound) (e : s₂ ≡ record deeper { incumbent = s₂.incumbent }) where
        -- the sum is not less than the leg's own time
        pub sum_again : s₂.high ≡ s.high + leg.high
        sum_again = ap (λ (x : BranchAndBound). x.high) e

        -- once the leg is taken off again, the search is what it was, except for its incumbent
        pub only_incumbent_again : (chain₂ : ArrayVec ℕ) → chain₂.items ≡ take (length s₂.chain.items - 1) s₂.chain.items → record s₂ { chain = chain₂; used = set s₂.used leg.to false; flags = set s₂.flags k false; high = s₂.high - leg.high } ≡ record s { incumbent = s₂.incumbent }
        only_incumbent_again chain₂ popped =
            let free : get_or s.used leg.to false ≡ false = ap (λ y. get_or s.used y false) is ∙ on.1.fresh in
            let used : set s₂.used leg.to false ≡ s.used = ap (λ (x : BranchAndBound). set x.used leg.to false) e ∙ set-set s.used leg.to true false ∙ ap (λ b. set s.used leg.to b) (sym free) ∙ set-get_or s.used leg.to false in
            let flags : set s₂.flags k false ≡ s.flags = ap (λ (x : BranchAndBound). set x.flags k false) e ∙ set-set s.flags k true false ∙ ap (λ b. set s.flags k b) (sym unflagged) ∙ set-get_or s.flags k false in
            let high : s₂.high - leg.high ≡ s.high = omega (arith, sum_again) in
            let items : chain₂.items ≡ ks =
            popped ∙ ap (λ (x : BranchAndBound). take (length x.chain.items - 1) x.chain.items) e ∙ ap (λ l. take (length l - 1) l) pushed
            ∙ take_at ks (k ∷ []) (length (ks ++ k ∷ []) - 1) (omega (arith, length-append ks (k ∷ []))) in
            ap (λ (x : BranchAndBound). record x { chain = chain₂; used = set s₂.used leg.to false; flags = set s₂.flags k false; high = s₂.high - leg.high }) e
            ∙ ap (λ u. record s { chain = chain₂; used = u; flags = set s₂.flags k false; high = s₂.high - leg.high; incumbent = s₂.incumbent }) used
            ∙ ap (λ m. record s { chain = chain₂; flags = m; high = s₂.high - leg.high; incumbent = s₂.incumbent }) flags
            ∙ ap (λ h. record s { chain = chain₂; high = h; incumbent = s₂.incumbent }) high
            ∙ ap (λ l. record s { chain = record { items = l }; incumbent = s₂.incumbent }) items

  -- legs that do not leave the fix are passed over
  searched_past : {incumbent : Option Incumbent} (low high : ℕ) → ((k : ℕ) → low ≤ k → k < high → k < length t.legs → (leg_at t.legs k).from ≡ here → ⊥) → IsSearched t s.incumbent incumbent (ExtendsBelow ks low) → IsSearched t s.incumbent incumbent (ExtendsBelow ks high)
  searched_past low high none w = searched_of w (λ q is_route g. grind (arith, steps_on g.0 g.2.0 q is_route g.2.1, none g.0, cases_lt g.0 low))

  pub explored_start : (left : List ℕ) → left ≡ legs_leaving (snapshot_legs s.snapshot.now) here 0 → LegsExplored s here s left
  explored_start left is = record { low = 0; others = is; searched = searched_none ready.is_valid (λ q is_route g. let lt = g.1 in absurd (omega arith)); only_incumbent = refl }

  module _ {s₁ : BranchAndBound} {left : List ℕ} (explored : LegsExplored s here s₁ left) where
    pub explored_again : (k : ℕ) (rest : List ℕ) → left ≡ k ∷ rest → (s₂ : BranchAndBound) → IsSearched (searched_query s₁) s₁.incumbent s₂.incumbent (ExtendsBy s₁.chain.items k) → ChangesOnlyIncumbent s₁ s₂ → LegsExplored s here s₂ rest
    explored_again k rest is s₂ part only_incumbent =
        let next = leaving_goes_on t.legs here (sym explored.others ∙ is) in
        let part' : IsSearched t s₁.incumbent s₂.incumbent (ExtendsBy ks k) = subst (λ (x : BranchAndBound). IsSearched (searched_query x) s₁.incumbent s₂.incumbent (ExtendsBy x.chain.items k)) explored.only_incumbent part in
        let both = searched_both (searched_past explored.low k (λ j a b there from. next.0.gap j a b from) explored.searched) part' (λ q is_route g. grind (arith, cases_eq g.0 k)) in
        record { low = k + 1; others = next.1; searched = both; only_incumbent = only_incumbent ∙ ap (λ (x : BranchAndBound). record x { incumbent = s₂.incumbent }) explored.only_incumbent }

    pub explored_end : (here ≡ s.ends.to → ⊥) → left ≡ [] → IsSearched (searched_query s) s.incumbent s₁.incumbent (IsPrefix s.chain.items)
    explored_end ne is =
        let none = leaving_ends t.legs here (sym explored.others ∙ is) in
        searched_of (searched_past explored.low (length t.legs) (λ k ge lt there from. none k ge there from) explored.searched) (λ q is_route b. goes_on ne q is_route b.0 b.1)
