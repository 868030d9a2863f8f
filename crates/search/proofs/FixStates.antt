-- The state of one fix changed: which fixes are labelled and which are settled then, and how many are settled. And a total is
-- as good as itself.
use Rattle.std.proofs.Common.{◌≡◌, ℕ, ◌+◌, ◌<◌, cond, List, length, set, sym, refl, ◌∙◌, subst, ⊎_elim, arith, length-set}
use Rattle.std.proofs.lemmas.List.{get_or-set_same, get_or-set_other, get_or_past}
use Rattle.std.proofs.lemmas.List.Sums.{sum_by-set, count_by-le-length}
use Rattle.std.proofs.lemmas.Bool.{cases_eq, cases_lt}
use Rattle.chart.specs.Kinds.{Rule, Laws}
use Rattle.search.specs.declared.search_state.FixState.{FixState}
use Rattle.search.specs.declared.search_state.FixState.TheVariants.{Unreached, Reached, Settled}
use Rattle.search.specs.internal.Labels.{state_at, IsLabelled, IsSettled, is_settled, settled_count}

pub as_good_as_itself : {T : Type 0} {rule : Rule T} → Laws rule → (a : T) → rule.order a a
as_good_as_itself laws a = ⊎_elim (λ x. x) (λ x. x) (laws.compares a a)

pub reached_not_settled : (m : FixState) → m ≡ Reached → m ≡ Settled → ⊥
reached_not_settled m p r = let z : ◌≡◌ {A = ℕ} 0 1 = cc in omega arith

pub reached_not_unreached : (m : FixState) → m ≡ Reached → m ≡ Unreached → ⊥
reached_not_unreached m p r = let z : ◌≡◌ {A = ℕ} 0 1 = cc in omega arith

pub settled_not_unreached : (m : FixState) → m ≡ Settled → m ≡ Unreached → ⊥
settled_not_unreached m p r = let z : ◌≡◌ {A = ℕ} 0 1 = cc in omega arith

pub only_reached : (m : FixState) → (m ≡ Unreached → ⊥) → (m ≡ Settled → ⊥) → m ≡ Reached
only_reached Unreached n s = absurd (n refl)
only_reached Reached n s = refl
only_reached Settled n s = absurd (s refl)

pub only_settled : (m : FixState) → (m ≡ Unreached → ⊥) → (m ≡ Reached → ⊥) → m ≡ Settled
only_settled Unreached n r = absurd (n refl)
only_settled Reached n r = absurd (r refl)
only_settled Settled n r = refl

unsettled_counts_none : (m : FixState) → (m ≡ Settled → ⊥) → ◌≡◌ {A = ℕ} (cond (is_settled m) 1 0) 0
unsettled_counts_none Unreached n = refl
unsettled_counts_none Reached n = refl
unsettled_counts_none Settled n = absurd (n refl)

pub labelled_small : (state : List FixState) (v : ℕ) → IsLabelled state v → v < length state
labelled_small state v h = ⊎_elim (λ p. p) (λ p. absurd (h (get_or_past state v Unreached p))) (cases_lt v (length state))

-- a fix w that is not settled gets another state
module _ (state : List FixState) (w : ℕ) (small : w < length state) (unsettled : IsSettled state w → ⊥) where
  pub state_here : (m : FixState) → state_at (set state w m) w ≡ m
  state_here m = get_or-set_same state w m Unreached small

  pub state_other : (m : FixState) (x : ℕ) → (x ≡ w → ⊥) → state_at (set state w m) x ≡ state_at state x
  state_other m x ne = get_or-set_other state w x m Unreached ne

  pub settled_on : (m : FixState) (x : ℕ) → IsSettled state x → IsSettled (set state w m) x
  settled_on m x d = state_other m x (λ e. unsettled (subst (λ y. IsSettled state y) e d)) ∙ d

  pub settled_back : (x : ℕ) → IsSettled (set state w Reached) x → IsSettled state x × (x ≡ w → ⊥)
  settled_back x d =
      ⊎_elim (λ e. absurd (reached_not_settled _ (state_here Reached) (subst (λ y. state_at (set state w Reached) y ≡ Settled) e d)))
      (λ ne. (sym (state_other Reached x ne) ∙ d, ne))
      (cases_eq x w)

  pub labelled_on : (m : FixState) → (m ≡ Unreached → ⊥) → (x : ℕ) → IsLabelled state x → IsLabelled (set state w m) x
  labelled_on m n x h =
      ⊎_elim (λ e. subst (λ y. IsLabelled (set state w m) y) (sym e) (λ b. n (sym (state_here m) ∙ b)))
      (λ ne b. h (sym (state_other m x ne) ∙ b))
      (cases_eq x w)

  pub labelled_back : (m : FixState) (x : ℕ) → (x ≡ w → ⊥) → IsLabelled (set state w m) x → IsLabelled state x
  labelled_back m x ne h b = h (state_other m x ne ∙ b)

  pub settled_same : settled_count (set state w Reached) ≡ settled_count state
  settled_same =
      let e = sum_by-set (λ m. cond (is_settled m) 1 0) state w Reached Unreached small in
      let z = unsettled_counts_none (state_at state w) unsettled in
      omega arith

  pub settled_more : settled_count (set state w Settled) ≡ settled_count state + 1
  settled_more =
      let e = sum_by-set (λ m. cond (is_settled m) 1 0) state w Settled Unreached small in
      let z = unsettled_counts_none (state_at state w) unsettled in
      omega arith

  pub settled_not_all : settled_count state < length state
  settled_not_all = let e = length-set state w Settled in omega (arith, settled_more, count_by-le-length is_settled (set state w Settled))
