-- Chains put together and taken apart, and of how many legs a total is made.
use Rattle.std.proofs.Common.{◌≡◌, ℕ, ◌+◌, ◌⊎◌, List, [], ◌∷◌, ◌++◌, length, sym, refl, ap, ◌∙◌, subst, inl, inr, ⊎_elim, arith}
use Rattle.chart.specs.declared.leg.Leg.{Leg}
use Rattle.chart.specs.Kinds.{Rule, IsMadeOf, none, more}
use Rattle.chart.specs.Legs.{leg_at}
use Rattle.chart.specs.Routes.{Leaves, Leads, IsChain, fixes_entered, fixes_of_chain, IsIn, HasNoRepeats}
use Rattle.chart.specs.Best.{total, total_from}

pub leads_push : (legs : List Leg) (ks : List ℕ) (s t k : ℕ) → Leads legs s ks t → Leaves legs t k → Leads legs s (ks ++ k ∷ []) (leg_at legs k).to
leads_push legs [] s t k e l = (subst (λ y. Leaves legs y k) (sym e) l, refl)
leads_push legs (m ∷ ms) s t k h l = (h.0, leads_push legs ms (leg_at legs m).to t k h.1 l)

-- the legs of a list go on from where its front leads
pub leads_on : (legs : List Leg) (ks ms : List ℕ) (s z t : ℕ) → Leads legs s ks z → Leads legs s (ks ++ ms) t → Leads legs z ms t
leads_on legs [] ms s z t e l = subst (λ y. Leads legs y ms t) e l
leads_on legs (k ∷ ks) ms s z t h l = leads_on legs ks ms (leg_at legs k).to z t h.1 l.1

-- a list leads to one fix
pub leads_end : (legs : List Leg) (ks : List ℕ) (s y z : ℕ) → Leads legs s ks y → Leads legs s ks z → y ≡ z
leads_end legs [] s y z a b = sym a ∙ b
leads_end legs (k ∷ ks) s y z a b = leads_end legs ks (leg_at legs k).to y z a.1 b.1

pub fixes_entered_append : (legs : List Leg) (ks ms : List ℕ) → fixes_entered legs (ks ++ ms) ≡ fixes_entered legs ks ++ fixes_entered legs ms
fixes_entered_append legs [] ms = refl
fixes_entered_append legs (k ∷ ks) ms = ap (λ xs. (leg_at legs k).to ∷ xs) (fixes_entered_append legs ks ms)

pub in_append_left : (xs ys : List ℕ) (x : ℕ) → IsIn x xs → IsIn x (xs ++ ys)
in_append_left [] ys x i = absurd i
in_append_left (z ∷ zs) ys x i = ⊎_elim inl (λ j. inr (in_append_left zs ys x j)) i

pub in_append_right : (us vs : List ℕ) (v : ℕ) → IsIn v vs → IsIn v (us ++ vs)
in_append_right [] vs v i = i
in_append_right (u ∷ us) vs v i = grind (arith, in_append_right us vs v)

pub in_append : (us vs : List ℕ) (v : ℕ) → IsIn v (us ++ vs) → IsIn v us ⊎ IsIn v vs
in_append [] vs v i = inr i
in_append (u ∷ us) vs v i = grind (arith, in_append us vs v)

pub in_middle : (xs : List ℕ) (y : ℕ) (ys : List ℕ) → IsIn y (xs ++ y ∷ ys)
in_middle [] y ys = inl refl
in_middle (x ∷ xs) y ys = inr (in_middle xs y ys)

-- what stands behind is not in front
pub no_repeats_apart : (xs : List ℕ) (y : ℕ) (ys : List ℕ) → HasNoRepeats (xs ++ y ∷ ys) → IsIn y xs → ⊥
no_repeats_apart [] y ys d i = i
no_repeats_apart (x ∷ xs) y ys d i = ⊎_elim (λ e. d.0 (subst (λ z. IsIn z (xs ++ y ∷ ys)) e (in_middle xs y ys))) (λ j. no_repeats_apart xs y ys d.1 j) i

pub in_push : (xs : List ℕ) (x y : ℕ) → IsIn x (xs ++ y ∷ []) → IsIn x xs ⊎ (x ≡ y)
in_push [] x y i = ⊎_elim inr (λ n. absurd n) i
in_push (z ∷ zs) x y i = ⊎_elim (λ e. inl (inl e)) (λ j. ⊎_elim (λ p. inl (inr p)) inr (in_push zs x y j)) i

pub no_repeats_push : (xs : List ℕ) (y : ℕ) → HasNoRepeats xs → (IsIn y xs → ⊥) → HasNoRepeats (xs ++ y ∷ [])
no_repeats_push [] y d n = (n, tt)
no_repeats_push (x ∷ xs) y d n = (λ i. ⊎_elim d.0 (λ e. n (inl (sym e))) (in_push xs x y i), no_repeats_push xs y d.1 (λ i. n (inr i)))

-- the end of a chain is met
pub end_in_chain : (legs : List Leg) (ks : List ℕ) (s z : ℕ) → Leads legs s ks z → IsIn z (fixes_of_chain legs s ks)
end_in_chain legs [] s z e = inl (sym e)
end_in_chain legs (k ∷ ks) s z l = inr (end_in_chain legs ks (leg_at legs k).to z l.1)

-- no leg of a chain leaves its end
pub left_not_end : (legs : List Leg) (ks : List ℕ) (s z : ℕ) → Leads legs s ks z → HasNoRepeats (fixes_of_chain legs s ks) → (k : ℕ) → IsIn k ks → (leg_at legs k).from ≡ z → ⊥
left_not_end legs [] s z l d k i e = i
left_not_end legs (m ∷ ms) s z l d k i e = grind (arith, left_not_end legs ms (leg_at legs m).to z l.1 d.1 k, end_in_chain legs ms (leg_at legs m).to z l.1)

module _ (legs : List Leg) (s : ℕ) (ks : List ℕ) (k : ℕ) where
  pub in_chain_push : (x : ℕ) → IsIn x (fixes_of_chain legs s (ks ++ k ∷ [])) → IsIn x (fixes_of_chain legs s ks) ⊎ (x ≡ (leg_at legs k).to)
  in_chain_push x i = in_push (fixes_of_chain legs s ks) x (leg_at legs k).to (subst (λ xs. IsIn x (s ∷ xs)) (fixes_entered_append legs ks (k ∷ [])) i)

  pub chain_push : (t : ℕ) → IsChain legs s ks t → Leaves legs t k → (IsIn (leg_at legs k).to (fixes_of_chain legs s ks) → ⊥) → IsChain legs s (ks ++ k ∷ []) (leg_at legs k).to
  chain_push t c l new = record {
    leads = leads_push legs ks s t k c.leads l;
    once = subst (λ xs. HasNoRepeats (s ∷ xs)) (sym (fixes_entered_append legs ks (k ∷ []))) (no_repeats_push (fixes_of_chain legs s ks) (leg_at legs k).to c.once new);
  }

module _ {T : Type 0} (rule : Rule T) (legs : List Leg) where
  pub total_push : (ks : List ℕ) (t : T) (k : ℕ) → total_from rule legs t (ks ++ k ∷ []) ≡ rule.add (total_from rule legs t ks) k (leg_at legs k)
  total_push [] t k = refl
  total_push (m ∷ ms) t k = total_push ms (rule.add t m (leg_at legs m)) k

  made_on : (ks : List ℕ) (t : T) (n : ℕ) → IsMadeOf rule n t → IsMadeOf rule (n + length ks) (total_from rule legs t ks)
  made_on [] t n m = let e : n ≡ n + length {A = ℕ} [] = omega arith in subst (λ i. IsMadeOf rule i t) e m
  made_on (k ∷ ks) t n m =
      let e : (n + 1) + length ks ≡ n + length (k ∷ ks) = omega arith in
      subst (λ i. IsMadeOf rule i (total_from rule legs (rule.add t k (leg_at legs k)) ks)) e
      (made_on ks (rule.add t k (leg_at legs k)) (n + 1) (more n t k (leg_at legs k) m))

  pub made_of_its_legs : (ks : List ℕ) → IsMadeOf rule (length ks) (total rule legs ks)
  made_of_its_legs ks =
      let e : 0 + length ks ≡ length ks = omega arith in
      subst (λ i. IsMadeOf rule i (total rule legs ks)) e (made_on ks rule.start 0 none)
