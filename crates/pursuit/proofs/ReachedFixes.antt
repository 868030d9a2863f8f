-- A rival that reaches one more fix.
use Rattle.std.proofs.Common.{◌≡◌, ℕ, ◌+◌, ◌<◌, ◌≤◌, ◌≢◌, ◌⊎◌, List, [], ◌∷◌, ◌++◌, length, get_or, set, replicate, Some, None, Option, sym, refl, ap, ◌∙◌, subst, inl, inr, ⊎_elim, arith}
use Rattle.std.proofs.lemmas.Bool.{cases_eq, cases_lt}
use Rattle.std.proofs.lemmas.List.{get_or-set_other, get_or-set_same, set_past}
use Rattle.chart.specs.declared.leg.Leg.{Leg}
use Rattle.chart.specs.Legs.{leg_at}
use Rattle.chart.specs.Regret.{Query}
use Rattle.chart.proofs.Chains.{in_push}
use Rattle.search.proofs.WalkedChains.{time_join}
use Rattle.pursuit.specs.Rivals.{IsRivalLeg}
use Rattle.pursuit.specs.Pursuits.{RivalReaches}
use Rattle.pursuit.specs.internal.Margins.{AreReached}
use Rattle.pursuit.proofs.Paths.{path_join}
use Rattle.pursuit.proofs.ReadLegs.{all_equal}

pub cases_ne : (x y : ℕ) → (x ≢ y) ⊎ (x ≡ y)
cases_ne x y = ⊎_elim inr inl (cases_eq x y)

module _ (t : Query) (height w : ℕ → ℕ) (h : ℕ) where
  -- by one leg more
  reaches_on : (b d k : ℕ) → RivalReaches t height w h b d → IsRivalLeg t k → (leg_at t.legs k).from ≡ b → height b < h → RivalReaches t height w h (leg_at t.legs k).to (d + w k)
  reaches_on b d k r leg from lt = record {
    by = r.by ++ k ∷ [];
    path = path_join (IsRivalLeg t) t.legs r.by (k ∷ []) t.source b (leg_at t.legs k).to r.path (leg, from, refl);
    below = λ j i. ⊎_elim (λ old. r.below j old) (λ e. subst (λ y. height y < h) (sym (ap (λ y. (leg_at t.legs y).from) e ∙ from)) lt) (in_push r.by j k i);
    takes = let j = time_join w r.by (k ∷ []) in omega (arith, r.takes);
  }

  -- the departure, before any leg
  reaches_start : RivalReaches t height w h t.source 0
  reaches_start = record { by = []; path = refl; below = λ k i. absurd i; takes = omega arith }

  some_same : (x y : ℕ) → ◌≡◌ {A = Option ℕ} (Some x) (Some y) → x ≡ y
  some_same x y e = cc

  none_some : (x : ℕ) → ◌≡◌ {A = Option ℕ} None (Some x) → ⊥
  none_some x e = let z : ◌≡◌ {A = ℕ} 0 1 = cc in omega arith

  -- one more time is known
  pub all_on : (times : List (Option ℕ)) → AreReached t height w h times → (v x : ℕ) → RivalReaches t height w h v x → AreReached t height w h (set times v (Some x))
  all_on times all v x r b d e =
      ⊎_elim
      (λ (other : b ≢ v). all b d (sym (get_or-set_other times v b (Some x) None other) ∙ e))
      (λ (same : b ≡ v). ⊎_elim
      (λ (lt : v < length times).
      let now : Some x ≡ Some d = sym (get_or-set_same times v (Some x) None lt) ∙ ap (λ y. get_or (set times v (Some x)) y None) (sym same) ∙ e in
      subst (λ y. RivalReaches t height w h y d) (sym same) (subst (λ y. RivalReaches t height w h v y) (some_same x d now) r))
      (λ (past : length times ≤ v). all b d (ap (λ ts. get_or ts b None) (sym (set_past times v (Some x) past)) ∙ e))
      (cases_lt v (length times)))
      (cases_ne b v)

  -- before any leg, the departure alone is reached
  pub all_start : (n : ℕ) → AreReached t height w h (set (replicate n None) t.source (Some 0))
  all_start n = all_on (replicate n None) (λ b d e. absurd (none_some d (sym (all_equal None n b) ∙ e))) t.source 0 reaches_start

  -- a leg is taken
  pub all_taken : (times : List (Option ℕ)) → AreReached t height w h times → (k : ℕ) (leg : Leg) → leg ≡ leg_at t.legs k → IsRivalLeg t k → height leg.from < h → (d x : ℕ) → Some d ≡ get_or times leg.from None → x ≡ d + w k → AreReached t height w h (set times leg.to (Some x))
  all_taken times all k leg is rival lt d x known sum =
      let from : (leg_at t.legs k).from ≡ leg.from = ap (λ (l : Leg). l.from) (sym is) in
      let to : (leg_at t.legs k).to ≡ leg.to = ap (λ (l : Leg). l.to) (sym is) in
      let r = reaches_on leg.from d k (all leg.from d (sym known)) rival from lt in
      all_on times all leg.to x (subst (λ y. RivalReaches t height w h y x) to (subst (λ y. RivalReaches t height w h (leg_at t.legs k).to y) (sym sum) r))
