-- A fix is settled, the search goes from one of its legs to the next, and the relaxing ends.
use Rattle.std.proofs.Common.{◌≡◌, ℕ, ◌<◌, ◌≤◌, List, length, Some, None, set, sym, refl, ◌∙◌, subst, ⊎_elim, arith, length-set}
use Rattle.std.proofs.lemmas.Bool.{cases_eq, cases_lt}
use Rattle.chart.specs.Legs.{leg_at}
use Rattle.chart.specs.Kinds.{Laws}
use Rattle.search.specs.declared.search_state.FixState.{FixState}
use Rattle.search.specs.declared.search_state.FixState.TheVariants.{Settled}
use Rattle.search.specs.LegsLeaving.{IsFirstLeg}
use Rattle.search.specs.internal.Labels.{label_at, IsLabelled, IsSettled, IsBestReached}
use Rattle.search.specs.internal.Invariants.{SearchProblem, SearchInvariant, RelaxingInvariant}
use Rattle.search.proofs.RelaxedLegs.{with_relaxed}
use Rattle.search.proofs.FixStates.{as_good_as_itself, reached_not_settled, reached_not_unreached, settled_not_unreached, only_reached, labelled_small, state_here, state_other, settled_on, labelled_on, labelled_back, settled_more}

module _ {T : Type 0} {q : SearchProblem T} (laws : Laws q.rule) {label : List T} {state : List FixState} (rest : SearchInvariant q label state) {u : ℕ} (pick : IsBestReached q.rule label state q.fixes u) where
  unsettled : IsSettled state u → ⊥
  unsettled = reached_not_settled _ pick.reached

  labelled_u : IsLabelled state u
  labelled_u b = reached_not_unreached _ pick.reached b

  in_states : u < length state
  in_states = labelled_small state u labelled_u

  here : IsSettled (set state u Settled) u
  here = state_here state u in_states unsettled Settled

  stays_labelled : (x : ℕ) → IsLabelled state x → IsLabelled (set state u Settled) x
  stays_labelled = labelled_on state u in_states unsettled Settled (λ b. settled_not_unreached _ refl b)

  was_labelled : (x : ℕ) → IsLabelled (set state u Settled) x → IsLabelled state x
  was_labelled x h = ⊎_elim (λ e. subst (λ y. IsLabelled state y) (sym e) labelled_u) (λ ne. labelled_back state u in_states unsettled Settled x ne h) (cases_eq x u)

  was_done : (x : ℕ) → (x ≡ u → ⊥) → IsSettled (set state u Settled) x → IsSettled state x
  was_done x ne d = sym (state_other state u in_states unsettled Settled x ne) ∙ d

  pub relaxing_begins : RelaxingInvariant q label (set state u Settled) u 0
  relaxing_begins =
      let state' = set state u Settled in
      let stays_settled = settled_on state u in_states unsettled Settled in
      record {
        relaxed_up_to = record {
          labels = rest.labels;
          states = length-set state u Settled ∙ rest.states;
          within = λ v h. rest.within v (was_labelled v h);
          labelled = stays_labelled q.departure rest.labelled;
          begins = rest.begins;
          paths = λ v h.
              let path = rest.paths v (was_labelled v h) in
              let more = settled_more state u in_states unsettled in
              let short = path.short in
              record {
                by = path.by;
                chain = path.chain;
                sums = path.sums;
                short = omega arith;
                shorter = λ _. omega arith;
                through = λ x i ne. stays_settled x (path.through x i ne);
              };
          ahead = λ x w d h nd.
              let kw = was_labelled w h in
              let ndw : IsSettled state w → ⊥ = λ dw. nd (stays_settled w dw) in
              ⊎_elim
              (λ e. subst (λ y. q.rule.order (label_at q.rule label y) (label_at q.rule label w)) (sym e) (pick.first w (rest.within w kw) (only_reached _ kw ndw)))
              (λ ne. rest.ahead x w (was_done x ne d) kw ndw)
              (cases_eq x u);
          relaxed = λ x k l d h.
              let ne : x ≡ u → ⊥ = λ e. let z = h e in omega arith in
              let old = rest.relaxed x k l (was_done x ne d) (λ _. l.there) in
              record { labelled = stays_labelled (leg_at q.legs k).to old.labelled; good = old.good };
        };
        here = here;
        last = λ x d.
            ⊎_elim
            (λ e. subst (λ y. q.rule.order (label_at q.rule label y) (label_at q.rule label u)) (sym e) (as_good_as_itself laws (label_at q.rule label u)))
            (λ ne. rest.ahead x u (was_done x ne d) labelled_u unsettled)
            (cases_eq x u);
      }

-- the search goes on to the first leg of u from i on, or past the last
module _ {T : Type 0} {q : SearchProblem T} {label : List T} {state : List FixState} {u i : ℕ} (relaxing : RelaxingInvariant q label state u i) where
  relaxing_skips : (j : ℕ) → ((k : ℕ) → i ≤ k → k < j → k < length q.legs → (leg_at q.legs k).from ≡ u → ⊥) → RelaxingInvariant q label state u j
  relaxing_skips j gap = record {
    relaxed_up_to = with_relaxed relaxing.relaxed_up_to (λ x k l d h. ⊎_elim
        (λ e. ⊎_elim
        (λ lt. relaxing.relaxed_up_to.relaxed x k l d (λ _. lt))
        (λ ge. absurd (gap k ge (h e) l.there (l.from ∙ e)))
        (cases_lt k i))
        (λ ne. relaxing.relaxed_up_to.relaxed x k l d (λ e. absurd (ne e)))
        (cases_eq x u));
    here = relaxing.here;
    last = relaxing.last;
  }

  pub relaxing_goes_on : {j : ℕ} → IsFirstLeg q.legs u i (Some j) → RelaxingInvariant q label state u j
  relaxing_goes_on {j} first = relaxing_skips j (λ k a b c e. first.gap k a b e)

  pub relaxing_goes_past : IsFirstLeg q.legs u i None → RelaxingInvariant q label state u (length q.legs)
  relaxing_goes_past none = relaxing_skips (length q.legs) (λ k a b c e. none k a c e)

-- once its legs are relaxed, u is a settled fix like any other
pub relaxing_ends : {T : Type 0} {q : SearchProblem T} {label : List T} {state : List FixState} {u : ℕ} → RelaxingInvariant q label state u (length q.legs) → SearchInvariant q label state
relaxing_ends relaxing = with_relaxed relaxing.relaxed_up_to (λ x k l d h. relaxing.relaxed_up_to.relaxed x k l d (λ _. l.there))
