-- One leg of the fix that was settled last.
use Rattle.std.proofs.Common.{◌≡◌, ℕ, ◌+◌, ◌<◌, ◌≤◌, List, [], ◌∷◌, ◌++◌, length, get_or, set, sym, refl, ap, ◌∙◌, subst, subst₂, ⊎_elim, arith, length-set}
use Rattle.std.proofs.lemmas.List.{get_or-set_same, get_or-set_other, length_push, get_or_default}
use Rattle.std.proofs.lemmas.Bool.{cases_eq}
use Rattle.chart.specs.declared.row.Standing.TheVariants.{Open}
use Rattle.chart.specs.Legs.{leg_at, IsChart}
use Rattle.chart.specs.Limits.{max_fixes}
use Rattle.chart.specs.Kinds.{Laws, HasFewLegs, IsMadeOf}
use Rattle.chart.specs.Routes.{Leaves, fixes_of_chain, IsIn}
use Rattle.search.specs.declared.search_state.FixState.{FixState}
use Rattle.search.specs.declared.search_state.FixState.TheVariants.{Reached}
use Rattle.search.specs.internal.Labels.{label_at, IsLabelled, IsSettled, settled_count}
use Rattle.search.specs.internal.Invariants.{SearchProblem, LabelPath, IsRelaxed, IsRelaxedUpTo, RelaxingInvariant, SettlesNone, IsImproved, took, held}
use Rattle.chart.proofs.Chains.{in_chain_push, chain_push, total_push, made_of_its_legs}
use Rattle.search.proofs.FixStates.{as_good_as_itself, reached_not_settled, reached_not_unreached, settled_not_unreached, labelled_small, state_here, settled_on, settled_back, labelled_on, labelled_back, settled_same, settled_not_all}

-- Labels and states stay, and other legs are known to be relaxed. A record update would keep u and j.
pub with_relaxed : {T : Type 0} {q : SearchProblem T} {label : List T} {state : List FixState} {u j v i : ℕ} → IsRelaxedUpTo q label state u j →
    ((x k : ℕ) → Leaves q.legs x k → IsSettled state x → (x ≡ v → k < i) → IsRelaxed q label state x k) → IsRelaxedUpTo q label state v i
with_relaxed s relaxed = record {
  labels = s.labels;
  states = s.states;
  within = s.within;
  labelled = s.labelled;
  begins = s.begins;
  paths = s.paths;
  ahead = s.ahead;
  relaxed = relaxed;
}

-- the label of a fix
abbrev pub label_in : {T : Type 0} → SearchProblem T → List T → ℕ → T
label_in q label v = label_at q.rule label v

-- where the leg j leads, and with which total from u
abbrev pub ends : {T : Type 0} → SearchProblem T → ℕ → ℕ
ends q j = (leg_at q.legs j).to

abbrev pub onward : {T : Type 0} → SearchProblem T → List T → ℕ → ℕ → T
onward q label u j = q.rule.add (label_in q label u) j (leg_at q.legs j)

module _ {T : Type 0} {q : SearchProblem T} (laws : Laws q.rule) {label : List T} {state : List FixState} {u j : ℕ} (relaxing : RelaxingInvariant q label state u j) where
  pub labelled_u : IsLabelled state u
  labelled_u b = settled_not_unreached _ relaxing.here b

  pub relaxing_small : u < max_fixes
  relaxing_small = let s = labelled_small state u labelled_u in omega (arith, relaxing.relaxed_up_to.states)

  pub read_u : (x : T) → get_or label u x ≡ label_in q label u
  read_u x = let s = relaxing_small in get_or_default label u x q.rule.start (omega (arith, relaxing.relaxed_up_to.labels))

  -- a fix that is not settled is one more than the chain of u meets
  pub few_legs : (w : ℕ) → w < max_fixes → (IsSettled state w → ⊥) → HasFewLegs q.rule (label_in q label u)
  few_legs w small unsettled =
      let path = relaxing.relaxed_up_to.paths u labelled_u in
      let more = settled_not_all state w (omega (arith, relaxing.relaxed_up_to.states)) unsettled in
      let short = path.shorter relaxing.here in
      (length path.by, subst (IsMadeOf q.rule (length path.by)) path.sums (made_of_its_legs q.rule q.legs path.by), omega (arith, relaxing.relaxed_up_to.states))

  -- the legs of u below j, and j itself
  relaxed_more : (label' : List T) (state' : List FixState) →
      ((x k : ℕ) → Leaves q.legs x k → IsSettled state' x → (x ≡ u → k < j) → IsRelaxed q label' state' x k) →
      (Leaves q.legs u j → IsRelaxed q label' state' u j) →
      (x k : ℕ) → Leaves q.legs x k → IsSettled state' x → (x ≡ u → k < j + 1) → IsRelaxed q label' state' x k
  relaxed_more label' state' old new x k l d h =
      ⊎_elim
      (λ eu. ⊎_elim
      (λ ek. subst₂ (λ y m. IsRelaxed q label' state' y m) (sym eu) (sym ek) (new (subst₂ (λ y m. Leaves q.legs y m) eu ek l)))
      (λ nk. old x k l d (λ e. let b = h e in omega arith))
      (cases_eq k j))
      (λ nu. old x k l d (λ e. absurd (nu e)))
      (cases_eq x u)

  -- labels and states stay
  relaxing_stays : (Leaves q.legs u j → IsRelaxed q label state u j) → RelaxingInvariant q label state u (j + 1)
  relaxing_stays new = record {
    relaxed_up_to = with_relaxed relaxing.relaxed_up_to (relaxed_more label state relaxing.relaxed_up_to.relaxed new);
    here = relaxing.here;
    last = relaxing.last;
  }

  pub relaxing_passes_closed : ((leg_at q.legs j).standing ≡ Open → ⊥) → RelaxingInvariant q label state u (j + 1)
  relaxing_passes_closed closed = relaxing_stays (λ l. absurd (closed l.is_open))

  -- the label of a settled fix is as good as that of u, and no leg betters a total
  pub relaxing_passes_settled : IsSettled state (ends q j) → RelaxingInvariant q label state u (j + 1)
  relaxing_passes_settled d = relaxing_stays (λ _. record {
    labelled = settled_not_unreached _ d;
    good = laws.transitive _ _ _ (relaxing.last (ends q j) d) (laws.add_inflationary (label_in q label u) j (leg_at q.legs j));
  })

  relaxing_holds : IsLabelled state (ends q j) → q.rule.order (label_in q label (ends q j)) (onward q label u j) → RelaxingInvariant q label state u (j + 1)
  relaxing_holds k o = relaxing_stays (λ _. record { labelled = k; good = o })

-- the fix at the end of the leg j takes the total over it
module _ {T : Type 0} {q : SearchProblem T} (laws : Laws q.rule) {label : List T} {state : List FixState} {u j : ℕ} (relaxing : RelaxingInvariant q label state u j)
    (is_chart : IsChart q.fixes q.legs) (leaves : Leaves q.legs u j) (unsettled : IsSettled state (ends q j) → ⊥)
    (better : IsLabelled state (ends q j) → q.rule.order (onward q label u j) (label_in q label (ends q j))) where
  inside : ends q j < q.fixes
  inside = is_chart.enters j leaves.there

  in_label : ends q j < length label
  in_label = omega (arith, relaxing.relaxed_up_to.labels, inside, is_chart.most)

  in_states : ends q j < length state
  in_states = omega (arith, relaxing.relaxed_up_to.states, inside, is_chart.most)

  label_here : label_in q (set label (ends q j) (onward q label u j)) (ends q j) ≡ onward q label u j
  label_here = get_or-set_same label (ends q j) (onward q label u j) q.rule.start in_label

  label_other : (x : ℕ) → (x ≡ ends q j → ⊥) → label_in q (set label (ends q j) (onward q label u j)) x ≡ label_in q label x
  label_other x ne = get_or-set_other label (ends q j) x (onward q label u j) q.rule.start ne

  labelled_here : IsLabelled (set state (ends q j) Reached) (ends q j)
  labelled_here b = reached_not_unreached _ (state_here state (ends q j) in_states unsettled Reached) b

  stays_labelled : (x : ℕ) → IsLabelled state x → IsLabelled (set state (ends q j) Reached) x
  stays_labelled = labelled_on state (ends q j) in_states unsettled Reached (λ b. reached_not_unreached _ refl b)

  -- no label gets worse
  lower : (x : ℕ) → IsLabelled state x → q.rule.order (label_in q (set label (ends q j) (onward q label u j)) x) (label_in q label x)
  lower x h =
      ⊎_elim
      (λ e. subst (λ y. q.rule.order (label_in q (set label (ends q j) (onward q label u j)) y) (label_in q label y)) (sym e)
      (subst (λ a. q.rule.order a (label_in q label (ends q j))) (sym label_here) (better (subst (λ y. IsLabelled state y) e h))))
      (λ ne. subst (λ a. q.rule.order a (label_in q label x)) (sym (label_other x ne)) (as_good_as_itself laws (label_in q label x)))
      (cases_eq x (ends q j))

  apart : u ≡ ends q j → ⊥
  apart e = unsettled (subst (λ y. IsSettled state y) e relaxing.here)

  new_path : LabelPath q (set label (ends q j) (onward q label u j)) (set state (ends q j) Reached) (ends q j)
  new_path =
      let path = relaxing.relaxed_up_to.paths u (labelled_u laws relaxing) in
      let new : IsIn (ends q j) (fixes_of_chain q.legs q.departure path.by) → ⊥ = λ i. unsettled (path.through (ends q j) i (λ e. apart (sym e))) in
      let long = length_push path.by j in
      let same = settled_same state (ends q j) in_states unsettled in
      let shorter = path.shorter relaxing.here in
      let fits : length (path.by ++ j ∷ []) ≤ settled_count (set state (ends q j) Reached) = omega arith in
      record {
        by = path.by ++ j ∷ [];
        chain = chain_push q.legs q.departure path.by j u path.chain leaves new;
        sums = total_push q.rule q.legs path.by q.rule.start j ∙ ap (λ a. q.rule.add a j (leg_at q.legs j)) path.sums ∙ sym label_here;
        short = fits;
        shorter = λ d. absurd (reached_not_settled _ (state_here state (ends q j) in_states unsettled Reached) d);
        through = λ x i ne. settled_on state (ends q j) in_states unsettled Reached x
            (⊎_elim
            (λ old. ⊎_elim (λ e. subst (λ y. IsSettled state y) (sym e) relaxing.here) (λ nu. path.through x old nu) (cases_eq x u))
            (λ e. absurd (ne e))
            (in_chain_push q.legs q.departure path.by j x i));
      }

  old_path : (v : ℕ) → (v ≡ ends q j → ⊥) → LabelPath q label state v → LabelPath q (set label (ends q j) (onward q label u j)) (set state (ends q j) Reached) v
  old_path v ne path =
      let same = settled_same state (ends q j) in_states unsettled in
      let short = path.short in
      record {
        by = path.by;
        chain = path.chain;
        sums = path.sums ∙ sym (label_other v ne);
        short = omega arith;
        shorter = λ d. let shorter = path.shorter (settled_back state (ends q j) in_states unsettled v d).0 in omega arith;
        through = λ x i nv. settled_on state (ends q j) in_states unsettled Reached x (path.through x i nv);
      }

  relaxing_takes : RelaxingInvariant q (set label (ends q j) (onward q label u j)) (set state (ends q j) Reached) u (j + 1)
  relaxing_takes =
      let s = relaxing.relaxed_up_to in
      let label' = set label (ends q j) (onward q label u j) in
      let state' = set state (ends q j) Reached in
      let back = settled_back state (ends q j) in_states unsettled in
      let stays_settled = settled_on state (ends q j) in_states unsettled Reached in
      let was_labelled = labelled_back state (ends q j) in_states unsettled Reached in
      let u_same = label_other u apart in
      record {
        relaxed_up_to = record {
          labels = length-set label (ends q j) (onward q label u j) ∙ s.labels;
          states = length-set state (ends q j) Reached ∙ s.states;
          within = λ v h. ⊎_elim (λ e. subst (λ y. y < q.fixes) (sym e) inside) (λ ne. s.within v (was_labelled v ne h)) (cases_eq v (ends q j));
          labelled = stays_labelled q.departure s.labelled;
          begins = laws.transitive _ _ _ (lower q.departure s.labelled) s.begins;
          paths = λ v h. ⊎_elim (λ e. subst (λ y. LabelPath q label' state' y) (sym e) new_path) (λ ne. old_path v ne (s.paths v (was_labelled v ne h))) (cases_eq v (ends q j));
          ahead = λ x y d h nd.
              subst (λ a. q.rule.order a (label_in q label' y)) (sym (label_other x (back x d).1))
              (⊎_elim
              (λ e. subst (λ z. q.rule.order (label_in q label x) (label_in q label' z)) (sym e)
              (subst (λ a. q.rule.order (label_in q label x) a) (sym label_here)
              (laws.transitive _ _ _ (relaxing.last x (back x d).0) (laws.add_inflationary (label_in q label u) j (leg_at q.legs j)))))
              (λ ne. subst (λ a. q.rule.order (label_in q label x) a) (sym (label_other y ne))
              (s.ahead x y (back x d).0 (was_labelled y ne h) (λ dy. nd (stays_settled y dy))))
              (cases_eq y (ends q j)));
          relaxed = relaxed_more laws relaxing label' state'
              (λ x k l d h.
              let old = s.relaxed x k l (back x d).0 h in
              record {
                labelled = stays_labelled (ends q k) old.labelled;
                good = subst (λ a. q.rule.order (label_in q label' (ends q k)) (q.rule.add a k (leg_at q.legs k))) (sym (label_other x (back x d).1))
                    (laws.transitive _ _ _ (lower (ends q k) old.labelled) old.good);
              })
              (λ l. record {
                labelled = labelled_here;
                good = subst₂ (λ a b. q.rule.order a (q.rule.add b j (leg_at q.legs j))) (sym label_here) (sym u_same) (as_good_as_itself laws (onward q label u j));
              });
        };
        here = stays_settled u relaxing.here;
        last = λ x d. subst₂ (λ a b. q.rule.order a b) (sym (label_other x (back x d).1)) (sym u_same) (relaxing.last x (back x d).0);
      }

  takes_settled_same : settled_count (set state (ends q j) Reached) ≡ settled_count state
  takes_settled_same = settled_same state (ends q j) in_states unsettled

  takes_settles_none : SettlesNone state (set state (ends q j) Reached)
  takes_settles_none x d = (settled_back state (ends q j) in_states unsettled x d).0

-- what a leg does whose total was brought
pub record RelaxesLeg {T : Type 0} (q : SearchProblem T) (state : List FixState) (u j : ℕ) (label' : List T) (state' : List FixState) : Type 0 where
  pub relaxing : RelaxingInvariant q label' state' u (j + 1)
  pub count : settled_count state' ≡ settled_count state
  pub settled : SettlesNone state state'

-- the relaxing goes on, and just those fixes are settled that were
module _ {T : Type 0} {q : SearchProblem T} (laws : Laws q.rule) {label : List T} {state : List FixState} {u j : ℕ} (relaxing : RelaxingInvariant q label state u j)
    (is_chart : IsChart q.fixes q.legs) (leaves : Leaves q.legs u j) (unsettled : IsSettled state (ends q j) → ⊥) where
  pub relaxing_improved : {label' : List T} {state' : List FixState} → IsImproved q.rule label state (ends q j) (onward q label u j) label' state' → RelaxesLeg q state u j label' state'
  relaxing_improved (took el em better) =
      subst₂ (λ l n. RelaxesLeg q state u j l n) (sym el) (sym em)
      (record {
        relaxing = relaxing_takes laws relaxing is_chart leaves unsettled better;
        count = takes_settled_same laws relaxing is_chart leaves unsettled better;
        settled = takes_settles_none laws relaxing is_chart leaves unsettled better;
      })
  relaxing_improved (held el em labelled o) =
      subst₂ (λ l n. RelaxesLeg q state u j l n) (sym el) (sym em) (record { relaxing = relaxing_holds laws relaxing labelled o; count = refl; settled = λ x d. d })
