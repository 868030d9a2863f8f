-- The total of a chain in the kind that avoids used fixes, and the best of them.
use Rattle.std.proofs.Common.{◌≡◌, ℕ, ◌+◌, ◌*◌, ◌≤◌, Bool, true, false, List, [], ◌∷◌, get_or, Some, None, Option, sym, refl, ap, ◌∙◌, subst, inl, inr, ⊎_elim, arith}
use Rattle.chart.specs.declared.leg.Leg.{Leg}
use Rattle.chart.specs.Limits.{max_seconds}
use Rattle.chart.specs.Legs.{leg_at}
use Rattle.chart.specs.Routes.{IsChain, IsRouteBetween}
use Rattle.chart.specs.Kinds.{IsMadeOf, none, more}
use Rattle.chart.specs.Best.{total_from, IsBest}
use Rattle.chart.specs.Regret.{time}
use Rattle.chart.specs.Floors.{highs}
use Rattle.floor.specs.internal.Avoid.{add_off, order_off, avoid_rule}
use Rattle.floor.specs.internal.Onward.{AvoidsUsed, LeastOnward}

-- a total has few seconds, or none
abbrev pub SmallOff : ℕ → Option ℕ → Type 0
SmallOff n None = Unit {0}
SmallOff n (Some x) = x ≤ n * max_seconds

small_add : (u : Bool) (h n : ℕ) (t : Option ℕ) → h ≤ max_seconds → SmallOff n t → SmallOff (n + 1) (add_off u h t)
small_add true h n t le w = tt
small_add false h n None le w = tt
small_add false h n (Some x) le w = omega arith

-- a total made of few legs is small
pub made_small : (used : List Bool) (n : ℕ) (t : Option ℕ) → IsMadeOf (avoid_rule used) n t → SmallOff n t
made_small used n t none = omega arith
made_small used n t (more j a k l m) = small_add (get_or used l.to false) l.high j a l.bounded (made_small used j a m)

module _ (legs : List Leg) (used : List Bool) where
  -- a total that is none stays none
  none_stays : (ks : List ℕ) → total_from (avoid_rule used) legs None ks ≡ None
  none_stays [] = refl
  none_stays (k ∷ ks) = ap (λ t. total_from (avoid_rule used) legs t ks) (add_none (get_or used (leg_at legs k).to false)) ∙ none_stays ks
    where
      add_none : (u : Bool) → add_off u (leg_at legs k).high None ≡ None
      add_none true = refl
      add_none false = refl

  -- legs that enter no used fix add up to their high time
  off_total : (ks : List ℕ) (x : ℕ) → AvoidsUsed legs used ks → total_from (avoid_rule used) legs (Some x) ks ≡ Some (x + time (highs legs) ks)
  off_total [] x off = let e : x ≡ x + 0 = omega arith in ap Some e
  off_total (k ∷ ks) x off =
      let one : add_off (get_or used (leg_at legs k).to false) (leg_at legs k).high (Some x) ≡ Some (x + (leg_at legs k).high) = ap (λ u. add_off u (leg_at legs k).high (Some x)) (off k (inl refl)) in
      let e : (x + (leg_at legs k).high) + time (highs legs) ks ≡ x + ((leg_at legs k).high + time (highs legs) ks) = omega arith in
      ap (λ t. total_from (avoid_rule used) legs t ks) one ∙ off_total ks (x + (leg_at legs k).high) (λ j i. off j (inr i)) ∙ ap Some e

  -- and a total that is not none comes of such legs
  total_off : (ks : List ℕ) (x a : ℕ) → total_from (avoid_rule used) legs (Some x) ks ≡ Some a → AvoidsUsed legs used ks × (a ≡ x + time (highs legs) ks)
  total_off [] x a e = (λ k i. absurd i, let f : x ≡ a = cc in omega arith)
  total_off (k ∷ ks) x a e = by_flag (get_or used (leg_at legs k).to false) refl (λ g. total_off ks (x + (leg_at legs k).high) a g)
    where
      by_flag : (u : Bool) → get_or used (leg_at legs k).to false ≡ u → (total_from (avoid_rule used) legs (Some (x + (leg_at legs k).high)) ks ≡ Some a → AvoidsUsed legs used ks × (a ≡ (x + (leg_at legs k).high) + time (highs legs) ks)) → AvoidsUsed legs used (k ∷ ks) × (a ≡ x + time (highs legs) (k ∷ ks))
      by_flag true f on =
          let g : total_from (avoid_rule used) legs None ks ≡ Some a = ap (λ u. total_from (avoid_rule used) legs (add_off u (leg_at legs k).high (Some x)) ks) (sym f) ∙ e in
          let n = none_stays ks in
          cc
      by_flag false f on =
          let h = on (ap (λ u. total_from (avoid_rule used) legs (add_off u (leg_at legs k).high (Some x)) ks) (sym f) ∙ e) in
          (λ j i. ⊎_elim (λ s. subst (λ m. get_or used (leg_at legs m).to false ≡ false) (sym s) f) (λ i'. h.0 j i') i, let s = h.1 in omega arith)

  module _ (s t : ℕ) (apart : s ≡ t → ⊥) where
    -- a chain between two different fixes has a leg
    away : (r : List ℕ) → IsChain legs s r t → IsRouteBetween legs s t r
    away [] c = absurd (apart c.leads)
    away (k ∷ ks) c = record { chain = c; some = omega arith }

    pub best_onward : (total : Option ℕ) → IsBest (avoid_rule used) legs s t total → LeastOnward legs used s t total
    best_onward None best = λ r c off. subst (λ x. order_off None x) (off_total r 0 off) (best.every r (away r c))
    best_onward (Some x) best =
        let of = total_off best.some.0 0 x best.some.2 in
        record {
          by = best.some.0;
          chain = best.some.1.chain;
          off = of.0;
          takes = omega (arith, of.1);
          least = λ r c off.
              let le : x ≤ 0 + time (highs legs) r = subst (λ y. order_off (Some x) y) (off_total r 0 off) (best.every r (away r c)) in
              omega arith;
        }
