-- How the search begins, and what its end tells: where it picks the destination, whose label is then best, or where no fix is
-- reached and not settled.
use Rattle.std.proofs.Common.{◌≡◌, ℕ, ◌<◌, ◌≤◌, ◌⊎◌, List, [], ◌∷◌, length, set, replicate, sym, refl, ◌∙◌, subst, inl, inr, ⊎_elim, arith, length-set}
use Rattle.std.proofs.lemmas.List.{get_or-set_same, get_or-set_other, get_or_past, get_or-replicate, length-replicate}
use Rattle.std.proofs.lemmas.Bool.{cases_eq, cases_lt}
use Rattle.chart.specs.Legs.{leg_at, IsChart}
use Rattle.chart.specs.Limits.{max_fixes}
use Rattle.chart.specs.Kinds.{Laws}
use Rattle.chart.specs.Best.{total_from, IsBest}
use Rattle.chart.specs.Routes.{Leaves, Leads, IsRouteBetween}
use Rattle.search.specs.declared.search_state.FixState.{FixState}
use Rattle.search.specs.declared.search_state.FixState.TheVariants.{Unreached, Reached, Settled}
use Rattle.search.specs.internal.Labels.{state_at, label_at, IsLabelled, IsSettled, IsBestReached}
use Rattle.search.specs.internal.Invariants.{SearchProblem, LabelPath, SearchInvariant}
use Rattle.search.proofs.FixStates.{as_good_as_itself, reached_not_settled, reached_not_unreached, settled_not_unreached, only_reached, only_settled}

-- before the first step the departure is reached, at the start
module _ {T : Type 0} (q : SearchProblem T) (laws : Laws q.rule) (is_chart : IsChart q.fixes q.legs) (fix : q.departure < q.fixes) where
  small : q.departure < max_fixes
  small = omega (arith, is_chart.most)

  unreached : (x : ℕ) → state_at (replicate max_fixes Unreached) x ≡ Unreached
  unreached x = ⊎_elim (λ h. get_or-replicate max_fixes x Unreached Unreached h) (λ h. get_or_past (replicate max_fixes Unreached) x Unreached (omega (arith, length-replicate max_fixes Unreached))) (cases_lt x max_fixes)

  here : state_at (set (replicate max_fixes Unreached) q.departure Reached) q.departure ≡ Reached
  here = get_or-set_same (replicate max_fixes Unreached) q.departure Reached Unreached (omega (arith, small, length-replicate max_fixes Unreached))

  away : (x : ℕ) → (x ≡ q.departure → ⊥) → state_at (set (replicate max_fixes Unreached) q.departure Reached) x ≡ Unreached
  away x ne = get_or-set_other (replicate max_fixes Unreached) q.departure x Reached Unreached ne ∙ unreached x

  pub none_settled : (x : ℕ) → IsSettled (set (replicate max_fixes Unreached) q.departure Reached) x → ⊥
  none_settled x d = ⊎_elim (λ e. reached_not_settled _ here (subst (λ y. IsSettled (set (replicate max_fixes Unreached) q.departure Reached) y) e d)) (λ ne. settled_not_unreached _ d (away x ne)) (cases_eq x q.departure)

  label_here : label_at q.rule (replicate max_fixes q.rule.start) q.departure ≡ q.rule.start
  label_here = get_or-replicate max_fixes q.departure q.rule.start q.rule.start small

  pub search_begins : SearchInvariant q (replicate max_fixes q.rule.start) (set (replicate max_fixes Unreached) q.departure Reached)
  search_begins =
      let state = set (replicate max_fixes Unreached) q.departure Reached in
      record {
        labels = length-replicate max_fixes q.rule.start;
        states = length-set (replicate max_fixes Unreached) q.departure Reached ∙ length-replicate max_fixes Unreached;
        within = λ v h. ⊎_elim (λ e. subst (λ y. y < q.fixes) (sym e) fix) (λ ne. absurd (h (away v ne))) (cases_eq v q.departure);
        labelled = reached_not_unreached _ here;
        begins = subst (λ a. q.rule.order a q.rule.start) (sym label_here) (as_good_as_itself laws q.rule.start);
        paths = λ v h.
            ⊎_elim
            (λ e. subst (λ y. LabelPath q (replicate max_fixes q.rule.start) state y) (sym e) (record {
              by = [];
              chain = record { leads = refl; once = ((λ n. n), tt) };
              sums = sym label_here;
              short = omega arith;
              shorter = λ d. absurd (none_settled q.departure d);
              through = λ x i ne. ⊎_elim (λ same. absurd (ne same)) (λ n. absurd n) i;
            }))
            (λ ne. absurd (h (away v ne)))
            (cases_eq v q.departure);
        ahead = λ x w d. absurd (none_settled x d);
        relaxed = λ x k l d. absurd (none_settled x d);
      }

-- between two steps, along a chain
module _ {T : Type 0} {q : SearchProblem T} (laws : Laws q.rule) {label : List T} {state : List FixState} (rest : SearchInvariant q label state) where
  -- adding legs never betters a total
  no_better : (ks : List ℕ) (t : T) → q.rule.order t (total_from q.rule q.legs t ks)
  no_better [] t = as_good_as_itself laws t
  no_better (k ∷ ks) t =
      let more = q.rule.add t k (leg_at q.legs k) in
      laws.transitive t more (total_from q.rule q.legs more ks) (laws.add_inflationary t k (leg_at q.legs k)) (no_better ks more)

  -- a settled fix hands on what its label is as good as
  onward_good : (v k : ℕ) (t : T) → IsSettled state v → Leaves q.legs v k → q.rule.order (label_at q.rule label v) t → q.rule.order (label_at q.rule label (leg_at q.legs k).to) (q.rule.add t k (leg_at q.legs k))
  onward_good v k t d l o =
      laws.transitive _ _ _ (rest.relaxed v k l d (λ _. l.there)).good (laws.add_monotone (label_at q.rule label v) t k (leg_at q.legs k) o)

  -- where no fix is reached and not settled, a chain from a settled fix leads to a settled one
  module _ (none : (w : ℕ) → w < q.fixes → state_at state w ≡ Reached → ⊥) where
    settled : (v : ℕ) → IsLabelled state v → IsSettled state v
    settled v h = only_settled (state_at state v) h (none v (rest.within v h))

    leads_to_settled : (ks : List ℕ) (v z : ℕ) → IsSettled state v → Leads q.legs v ks z → IsSettled state z
    leads_to_settled [] v z d e = subst (λ y. IsSettled state y) e d
    leads_to_settled (k ∷ ks) v z d c = leads_to_settled ks (leg_at q.legs k).to z (settled (leg_at q.legs k).to (rest.relaxed v k c.0 d (λ _. c.0.there)).labelled) c.1

    pub no_route_to_unsettled : (z : ℕ) → (IsSettled state z → ⊥) → (ks : List ℕ) → IsRouteBetween q.legs q.departure z ks → ⊥
    no_route_to_unsettled z n ks r = n (leads_to_settled ks q.departure z (settled q.departure rest.labelled) r.chain.leads)

  -- the fix z is the best of those that are reached and not settled
  module _ {z : ℕ} (pick : IsBestReached q.rule label state q.fixes z) where
    reached_no_better : (ks : List ℕ) (v : ℕ) (t : T) → IsLabelled state v → (IsSettled state v → ⊥) → q.rule.order (label_at q.rule label v) t → q.rule.order (label_at q.rule label z) (total_from q.rule q.legs t ks)
    reached_no_better ks v t h n o =
        let first = pick.first v (rest.within v h) (only_reached (state_at state v) h n) in
        laws.transitive _ _ _ first (laws.transitive _ _ _ o (no_better ks t))

    good_along : (ks : List ℕ) (v : ℕ) (t : T) → IsLabelled state v → q.rule.order (label_at q.rule label v) t → Leads q.legs v ks z → q.rule.order (label_at q.rule label z) (total_from q.rule q.legs t ks)
    good_along [] v t h o e = subst (λ y. q.rule.order (label_at q.rule label y) t) e o
    good_along (k ∷ ks) v t h o c =
        let to = (leg_at q.legs k).to in
        let more = q.rule.add t k (leg_at q.legs k) in
        ⊎_elim
        (λ d. good_along ks to more (rest.relaxed v k c.0 d (λ _. c.0.there)).labelled (onward_good v k t d c.0 o) c.1)
        (λ n. reached_no_better (k ∷ ks) v t h n o)
        (settled_or (state_at state v))
      where
        settled_or : (m : FixState) → (m ≡ Settled) ⊎ (m ≡ Settled → ⊥)
        settled_or Settled = inl refl
        settled_or Reached = inr (λ e. reached_not_settled Reached refl e)
        settled_or Unreached = inr (λ e. settled_not_unreached Unreached e refl)

    pub picked_is_best : (q.departure ≡ z → ⊥) → IsBest q.rule q.legs q.departure z (label_at q.rule label z)
    picked_is_best apart =
        let path = rest.paths z (reached_not_unreached _ pick.reached) in
        record {
          some = (path.by, record { chain = path.chain; some = legs_some path.by path.chain.leads }, path.sums);
          every = λ ks r. good_along ks q.departure q.rule.start rest.labelled rest.begins r.chain.leads;
        }
      where
        legs_some : (ks : List ℕ) → Leads q.legs q.departure ks z → 1 ≤ length ks
        legs_some [] e = absurd (apart e)
        legs_some (k ∷ ks) l = omega arith
