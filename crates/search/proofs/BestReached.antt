-- Of the fixes that are reached, the best is picked: by one call for each, from the first on.
use Rattle.std.proofs.Common.{◌≡◌, ℕ, zero, suc, ◌+◌, ◌<◌, ◌≤◌, Bool, true, false, cond, Option, Some, None, List, [], ◌∷◌, length, filter, sym, refl, ap, ◌∙◌, subst, ⊎_elim, arith}
use Rattle.std.specs.List.{range_with_len, All, FoldsTo}
use Rattle.std.specs.Iterator.{ReducesItems, FoldTurn, CallableAtEachTurn, AlwaysYields}
use Rattle.std.specs.Fn.{Called, Takes}
use Rattle.std.proofs.lemmas.Bool.{cases_eq}
use Rattle.std.proofs.lemmas.List.{map-id}
use Rattle.std.proofs.lemmas.List.Elements.{All-filter, All-take, filter_passes}
use Rattle.std.proofs.lemmas.List.FromFn.{get_or-range_with_len, length-range_with_len}
use Rattle.std.proofs.lemmas.Iterator.{YieldsList, items_from_drains}
use Rattle.std.proofs.lemmas.Iterator.Consumers.{YieldsList-so_far, YieldsList-turn}
use Rattle.chart.specs.Kinds.{Rule, Laws}
use Rattle.search.specs.declared.search_state.FixState.{FixState}
use Rattle.search.specs.declared.search_state.FixState.TheVariants.{Unreached, Reached, Settled}
use Rattle.search.specs.internal.Labels.{state_at, label_at, IsBetterOf, PicksBestReached}
use Rattle.search.proofs.FixStates.{as_good_as_itself}
use denote.Param.Members.{Mut}

abbrev pub is_reached : FixState → Bool
is_reached Unreached = false
is_reached Reached = true
is_reached Settled = false

reached_is : (m : FixState) → is_reached m ≡ true → m ≡ Reached
reached_is Unreached e = absurd (let z : ◌≡◌ {A = ℕ} 0 1 = cc in omega arith)
reached_is Reached e = refl
reached_is Settled e = absurd (let z : ◌≡◌ {A = ℕ} 0 1 = cc in omega arith)

-- the fixes below n that are reached
abbrev pub reached : List FixState → ℕ → List ℕ
reached state n = filter (λ v. is_reached (state_at state v)) (range_with_len 0 n)

-- what holds of the numbers of a range that pass a test holds of each
each_passes : (Q : ℕ → Type 0) (test : ℕ → Bool) (n low w : ℕ) → All Q (filter test (range_with_len low n)) → low ≤ w → w < low + n → test w ≡ true → Q w
each_passes Q test zero low w all le lt t = absurd (omega arith)
each_passes Q test (suc n) low w all le lt t =
    ⊎_elim
    (λ e. here (test low) (subst (λ x. test x ≡ true) e t) all e)
    (λ ne. each_passes Q test n (low + 1) w (later (test low) all) (omega arith) (omega arith) t)
    (cases_eq w low)
  where
    here : (b : Bool) → b ≡ true → All Q (cond b (low ∷ filter test (range_with_len (low + 1) n)) (filter test (range_with_len (low + 1) n))) → w ≡ low → Q w
    here true t a e = subst Q (sym e) (a 0 low (omega arith))
    here false t a e = absurd (let z : ◌≡◌ {A = ℕ} 0 1 = cc in omega arith)

    later : (b : Bool) → All Q (cond b (low ∷ filter test (range_with_len (low + 1) n)) (filter test (range_with_len (low + 1) n))) → All Q (filter test (range_with_len (low + 1) n))
    later true a = λ k d h. a (suc k) d (omega arith)
    later false a = a

all_more : (Q : ℕ → Type 0) (v : ℕ) (xs : List ℕ) → Q v → All Q xs → All Q (v ∷ xs)
all_more Q v xs q all zero d h = q
all_more Q v xs q all (suc k) d h = all k d (omega arith)

module _ {T F : Type 0} {rule : Rule T} (laws : Laws rule) (label : List T) (g : Mut F (ℕ × (ℕ × Unit {0})) ℕ) (f : F)
    (step : (u v w : ℕ) (f' : F) → Called g f (u, (v, tt)) w f' → (f' ≡ f) × IsBetterOf rule label u v w) where
  picks : (P : ℕ → Type 0) (xs : List ℕ) (u : ℕ) (f' : F) (y : ℕ) → FoldsTo {P = F × ℕ} (FoldTurn g) (f, u) xs (f', y) → P u → All P xs →
      P y × rule.order (label_at rule label y) (label_at rule label u) × All (λ w. rule.order (label_at rule label y) (label_at rule label w)) xs × (f' ≡ f)
  picks P [] u f' y e p all =
      let same = ap (λ (q : F × ℕ). q.1) e in
      (subst P same p, subst (λ w. rule.order (label_at rule label w) (label_at rule label u)) same (as_good_as_itself laws (label_at rule label u)), (λ k d h. absurd (omega arith)), sym (ap (λ (q : F × ℕ). q.0) e))
  picks P (v ∷ xs) u f' y t p all =
      let s = step u v t.0.1 t.0.0 t.1 in
      let calls = subst (λ q. FoldsTo {P = F × ℕ} (FoldTurn g) (q, t.0.1) xs (f', y)) s.0 t.2 in
      let here = ⊎_elim (λ e. subst P (sym e.0) (all 0 v (omega arith))) (λ e. subst P (sym e.0) p) s.1 in
      let rest = picks P xs t.0.1 f' y calls here (λ k d h. all (suc k) d (omega arith)) in
      let good = as_good u v t.0.1 s.1 in
      (rest.0, laws.transitive _ _ _ rest.1 good.0, all_more (λ w. rule.order (label_at rule label y) (label_at rule label w)) v xs (laws.transitive _ _ _ rest.1 good.1) rest.2, rest.3)
    where
      as_good : (u v w : ℕ) → IsBetterOf rule label u v w → rule.order (label_at rule label w) (label_at rule label u) × rule.order (label_at rule label w) (label_at rule label v)
      as_good u v w b =
          ⊎_elim
          (λ e. subst (λ x. rule.order (label_at rule label x) (label_at rule label u) × rule.order (label_at rule label x) (label_at rule label v)) (sym e.0) (e.1, as_good_as_itself laws (label_at rule label v)))
          (λ e. subst (λ x. rule.order (label_at rule label x) (label_at rule label u) × rule.order (label_at rule label x) (label_at rule label v)) (sym e.0) (as_good_as_itself laws (label_at rule label u), e.1))
          b

reached_within : (state : List FixState) (n : ℕ) → All (λ w. w < n) (reached state n)
reached_within state n = All-filter (λ v. is_reached (state_at state v)) (λ w. w < n) (range_with_len 0 n) (λ i e b. (let long = length-range_with_len 0 n in let at = get_or-range_with_len 0 n i e (omega arith) in omega arith))

-- each call is of two fixes below n
pub calls_within : {T F S : Type 0} {rule : Rule T} (laws : Laws rule) (label : List T) (state : List FixState) (n : ℕ) (g : Mut F (ℕ × (ℕ × Unit {0})) ℕ) (f : F) {steps : S → Option ℕ → S → Type 0} {s : S} →
    YieldsList steps (λ x. x) s (reached state n) →
    ((u v w : ℕ) (f' : F) → Called g f (u, (v, tt)) w f' → (f' ≡ f) × IsBetterOf rule label u v w) →
    ((u v : ℕ) → u < n → v < n → Takes g f (u, (v, tt))) →
    (x : ℕ) (t : S) → steps s (Some x) t → CallableAtEachTurn {P = F × ℕ} steps (FoldTurn g) (λ p x. Takes g p.0 (p.1, (x, tt))) t (f, x)
calls_within {F = F} {S = S} laws label state n g f {steps} {s} chain step takes x t first = from (reached state n) (reached_within state n) chain.runs
  where
    from : (all : List ℕ) → All (λ w. w < n) all → AlwaysYields steps (λ x. x) s all → CallableAtEachTurn {P = F × ℕ} steps (FoldTurn g) (λ p x. Takes g p.0 (p.1, (x, tt))) t (f, x)
    from [] small runs = absurd (runs x t first)
    from (y ∷ ys) small runs =
        let call = runs.1 x t first in
        let rest : YieldsList steps (λ x. x) t ys = record { runs = call.1 } in
        let x_small : x < n = subst (λ w. w < n) (sym call.0) (small 0 x (omega arith)) in
        let ys_small : All (λ w. w < n) ys = λ k d h. small (suc k) d (omega arith) in
        record {
          at = λ xs t' q v u yields folds more.
              let so_far = YieldsList-so_far rest xs t' yields in
              let xs_small : All (λ w. w < n) xs = subst (All (λ w. w < n)) (sym so_far ∙ map-id xs) (All-take (λ w. w < n) (length xs) ys ys_small) in
              let here = YieldsList-turn rest xs t' yields (Some v) u v refl more in
              let v_small : v < n = subst (λ w. w < n) (sym here.1) (ys_small (length xs) v here.0) in
              let now = picks laws label g f step (λ w. w < n) xs x q.0 q.1 folds x_small xs_small in
              subst (λ k. Takes g k (q.1, (v, tt))) (sym now.3) (takes q.1 v now.0 v_small);
        }

pub picked : {T F S : Type 0} {rule : Rule T} (laws : Laws rule) (label : List T) (state : List FixState) (n : ℕ) {g : Mut F (ℕ × (ℕ × Unit {0})) ℕ} {f : F} {steps : S → Option ℕ → S → Type 0} {s : S} (r : Option ℕ) →
    ReducesItems steps g s f r → YieldsList steps (λ x. x) s (reached state n) →
    ((u v w : ℕ) (f' : F) → Called g f (u, (v, tt)) w f' → (f' ≡ f) × IsBetterOf rule label u v w) →
    PicksBestReached rule label state n r
picked laws label state n {g} {f} {steps} {s} None none chain step =
    let items = items_from_drains {steps = steps} {v = λ x. x} {s = s} [] (none.1.0, none.1.1, λ _. (none.0, none.1.2)) chain in
    λ w lt e. each_passes (λ _. ⊥) (λ v. is_reached (state_at state v)) n 0 w (subst (All (λ _. ⊥)) items (λ k d h. absurd (omega arith))) (omega arith) (omega arith) (ap is_reached e)
picked {rule = rule} laws label state n {g} {f} {steps} {s} (Some y) (x, xs, f', drains, calls) chain step =
    let items = items_from_drains {steps = steps} {v = λ x. x} {s = s} (x ∷ xs) (drains.1.0, drains.1.1, λ _. (drains.0, drains.1.2)) chain in
    let P = λ (w : ℕ). (w < n) × (state_at state w ≡ Reached) in
    let all : All P (reached state n) = λ k d h. (
      reached_within state n k d h,
      reached_is _ (filter_passes (λ v. is_reached (state_at state v)) (range_with_len 0 n) k d h),
    ) in
    let mine : All P (x ∷ xs) = subst (All P) (sym items ∙ map-id (x ∷ xs)) all in
    let Q = λ (w : ℕ). rule.order (label_at rule label y) (label_at rule label w) in
    let best = picks laws label g f step P xs x f' y calls (mine 0 x (omega arith)) (λ k d h. mine (suc k) d (omega arith)) in
    let each : All Q (reached state n) = subst (All Q) (sym (map-id (x ∷ xs)) ∙ items) (all_more Q x xs best.1 best.2) in
    record { small = best.0.0; reached = best.0.1; first = λ w lt e. each_passes Q (λ v. is_reached (state_at state v)) n 0 w each (omega arith) (omega arith) (ap is_reached e) }
