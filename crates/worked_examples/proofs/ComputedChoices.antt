-- Tests that compute, for the worst choice of a list and for the legs that it shuts.
use Rattle.std.proofs.Common.{◌≡◌, ℕ, ◌<◌, Bool, false, cond, not, ◌&&◌, ◌||◌, eqb, ◌⊎◌, List, [], ◌∷◌, length, Decides, sym, refl, ap, ◌∙◌, inl, inr, ⊎_elim, arith}
use Rattle.std.proofs.lemmas.Bool.{cases_Bool}
use Rattle.std.proofs.lemmas.Bool.Decides.{Decides-eqb, Decides-not, Decides-and, Decides-or, Decides-like}
use Rattle.chart.specs.declared.leg.Leg.{Leg}
use Rattle.chart.specs.Legs.{leg_at}
use Rattle.chart.specs.Routes.{IsIn}
use Rattle.chart.specs.Regret.{IsWorstChoice}
use Rattle.chart.specs.Floors.{IsShut, IsFloorChoice}

abbrev pub member : ℕ → List ℕ → Bool
member k [] = false
member k (j ∷ js) = eqb k j || member k js

never : Decides false ⊥
never = ((λ e. let z : ◌≡◌ {A = ℕ} 0 1 = cc in omega arith), λ n. absurd n)

member_decides : (k : ℕ) (ks : List ℕ) → Decides (member k ks) (IsIn k ks)
member_decides k [] = never
member_decides k (j ∷ js) = Decides-or (eqb k j) (member k js) (Decides-eqb k j) (member_decides k js)

-- the choice that is high on the legs of p and low on all others
abbrev pub worst : List Leg → List ℕ → ℕ → ℕ
worst legs p k = cond (member k p) (leg_at legs k).high (leg_at legs k).low

pub worst_is_worst : (legs : List Leg) (p : List ℕ) → IsWorstChoice legs p (worst legs p)
worst_is_worst legs p = record {
  on = λ k i. ap (λ b. cond b (leg_at legs k).high (leg_at legs k).low) ((member_decides k p).1 i);
  off = λ k n. ap (λ b. cond b (leg_at legs k).high (leg_at legs k).low) (⊎_elim (λ e. absurd (n ((member_decides k p).0 e))) (λ e. e) (cases_Bool (member k p)));
}

-- the legs that a list shuts, by the fixes that each leg leaves and enters
module _ (leaves enters : ℕ → ℕ) where
  -- whether the leg k shares a fix with a leg of ks
  abbrev pub shares : List ℕ → ℕ → Bool
  shares [] k = false
  shares (j ∷ js) k = (eqb (leaves k) (leaves j) || eqb (enters k) (enters j)) || shares js k

  Sharing : List ℕ → ℕ → Type 0
  Sharing ks k = (j : ℕ) × IsIn j ks × ((leaves k ≡ leaves j) ⊎ (enters k ≡ enters j))

  shares_decides : (ks : List ℕ) (k : ℕ) → Decides (shares ks k) (Sharing ks k)
  unfolding Sharing
  shares_decides [] k = Decides-like false (λ n. absurd n) (λ s. s.1) never
  shares_decides (j ∷ js) k =
      Decides-like (shares (j ∷ js) k)
      (λ o. ⊎_elim (λ here. (j, inl refl, here)) (λ s. (s.0, inr s.1, s.2)) o)
      (λ s. ⊎_elim (λ e. inl (⊎_elim (λ f. inl (f ∙ ap leaves e)) (λ f. inr (f ∙ ap enters e)) s.2)) (λ i. inr (s.0, i, s.2)) s.1)
      (Decides-or (eqb (leaves k) (leaves j) || eqb (enters k) (enters j)) (shares js k)
      (Decides-or (eqb (leaves k) (leaves j)) (eqb (enters k) (enters j)) (Decides-eqb (leaves k) (leaves j)) (Decides-eqb (enters k) (enters j)))
      (shares_decides js k))

  abbrev pub shut : List ℕ → ℕ → Bool
  shut ks k = not (member k ks) && shares ks k

  -- the choice that is low on shut legs and high on all others
  abbrev pub floor_choice : List Leg → List ℕ → ℕ → ℕ
  floor_choice legs ks k = cond (shut ks k) (leg_at legs k).low (leg_at legs k).high

  module _ (legs : List Leg) (from_is : (k : ℕ) → k < length legs → (leg_at legs k).from ≡ leaves k) (to_is : (k : ℕ) → k < length legs → (leg_at legs k).to ≡ enters k) (ks : List ℕ) (there : (k : ℕ) → IsIn k ks → k < length legs) where
    shut_decides : (k : ℕ) → k < length legs → Decides (shut ks k) (IsShut legs ks k)
    unfolding Sharing
    shut_decides k h =
        Decides-like (shut ks k)
        (λ p.
        let j = p.1.0 in
        let i = p.1.1 in
        record {
          outside = p.0;
          shutting = j;
          inside = i;
          shares = ⊎_elim (λ f. inl (from_is k h ∙ f ∙ sym (from_is j (there j i)))) (λ f. inr (to_is k h ∙ f ∙ sym (to_is j (there j i)))) p.1.2;
        })
        (λ s.
        let j = s.shutting in
        let i = s.inside in
        (s.outside, (j, i, ⊎_elim (λ f. inl (sym (from_is k h) ∙ f ∙ from_is j (there j i))) (λ f. inr (sym (to_is k h) ∙ f ∙ to_is j (there j i))) s.shares)))
        (Decides-and (not (member k ks)) (shares ks k) (Decides-not (member k ks) (member_decides k ks)) (shares_decides ks k))

    pub floor_choice_is_one : IsFloorChoice legs ks (floor_choice legs ks)
    floor_choice_is_one = record {
      on = λ k h s. ap (λ b. cond b (leg_at legs k).low (leg_at legs k).high) ((shut_decides k h).1 s);
      off = λ k h n. ap (λ b. cond b (leg_at legs k).low (leg_at legs k).high) (⊎_elim (λ e. absurd (n ((shut_decides k h).0 e))) (λ e. e) (cases_Bool (shut ks k)));
    }
