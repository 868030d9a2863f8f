-- The routes of the four-fix chart from the first fix to the last: there are three.
use Rattle.std.proofs.Common.{◌≡◌, ℕ, zero, suc, ◌<◌, ◌⊎◌, List, [], ◌∷◌, length, sym, refl, ap, ◌∙◌, subst, inl, inr, ⊎_elim, arith}
use Rattle.chart.specs.declared.leg.Leg.{Leg}
use Rattle.chart.specs.Legs.{leg_at}
use Rattle.chart.specs.Rows.{row_at}
use Rattle.chart.specs.Routes.{Leaves, Leads}
use Rattle.worked_examples.specs.FourFix.{four_fix_rows}

-- five legs that join the fixes of the four-fix chart, whatever else they have
pub record JoinsFourFixes (legs : List Leg) : Type 0 where
  pub five : length legs ≡ 5
  pub leaves : (k : ℕ) → k < 5 → (leg_at legs k).from ≡ (row_at four_fix_rows k).from
  pub enters : (k : ℕ) → k < 5 → (leg_at legs k).to ≡ (row_at four_fix_rows k).to

module _ (legs : List Leg) (joined : JoinsFourFixes legs) where
  -- a leg that leaves another fix does not leave s
  elsewhere : (s k x : ℕ) → Leaves legs s k → k < 5 → (row_at four_fix_rows k).from ≡ x → (x ≡ s → ⊥) → ⊥
  elsewhere s k x l small e ne = ne (sym e ∙ sym (joined.leaves k small) ∙ l.from)

  beyond : (s k : ℕ) → Leaves legs s (suc (suc (suc (suc (suc k))))) → ⊥
  beyond s k l = let there = l.there in let five = joined.five in omega arith

  from_first : (k : ℕ) → Leaves legs 0 k → (k ≡ 0) ⊎ (k ≡ 2)
  from_first zero l = inl refl
  from_first (suc zero) l = absurd (elsewhere 0 1 1 l (omega arith) refl (λ e. omega arith))
  from_first (suc (suc zero)) l = inr refl
  from_first (suc (suc (suc zero))) l = absurd (elsewhere 0 3 2 l (omega arith) refl (λ e. omega arith))
  from_first (suc (suc (suc (suc zero)))) l = absurd (elsewhere 0 4 1 l (omega arith) refl (λ e. omega arith))
  from_first (suc (suc (suc (suc (suc k))))) l = absurd (beyond 0 k l)

  from_second : (k : ℕ) → Leaves legs 1 k → (k ≡ 1) ⊎ (k ≡ 4)
  from_second zero l = absurd (elsewhere 1 0 0 l (omega arith) refl (λ e. omega arith))
  from_second (suc zero) l = inl refl
  from_second (suc (suc zero)) l = absurd (elsewhere 1 2 0 l (omega arith) refl (λ e. omega arith))
  from_second (suc (suc (suc zero))) l = absurd (elsewhere 1 3 2 l (omega arith) refl (λ e. omega arith))
  from_second (suc (suc (suc (suc zero)))) l = inr refl
  from_second (suc (suc (suc (suc (suc k))))) l = absurd (beyond 1 k l)

  from_third : (k : ℕ) → Leaves legs 2 k → k ≡ 3
  from_third zero l = absurd (elsewhere 2 0 0 l (omega arith) refl (λ e. omega arith))
  from_third (suc zero) l = absurd (elsewhere 2 1 1 l (omega arith) refl (λ e. omega arith))
  from_third (suc (suc zero)) l = absurd (elsewhere 2 2 0 l (omega arith) refl (λ e. omega arith))
  from_third (suc (suc (suc zero))) l = refl
  from_third (suc (suc (suc (suc zero)))) l = absurd (elsewhere 2 4 1 l (omega arith) refl (λ e. omega arith))
  from_third (suc (suc (suc (suc (suc k))))) l = absurd (beyond 2 k l)

  from_last : (k : ℕ) → Leaves legs 3 k → ⊥
  from_last zero l = elsewhere 3 0 0 l (omega arith) refl (λ e. omega arith)
  from_last (suc zero) l = elsewhere 3 1 1 l (omega arith) refl (λ e. omega arith)
  from_last (suc (suc zero)) l = elsewhere 3 2 0 l (omega arith) refl (λ e. omega arith)
  from_last (suc (suc (suc zero))) l = elsewhere 3 3 2 l (omega arith) refl (λ e. omega arith)
  from_last (suc (suc (suc (suc zero)))) l = elsewhere 3 4 1 l (omega arith) refl (λ e. omega arith)
  from_last (suc (suc (suc (suc (suc k))))) l = beyond 3 k l

  -- where the leg k leads on
  onward : (k y : ℕ) (ks : List ℕ) (t : ℕ) → k < 5 → (row_at four_fix_rows k).to ≡ y → Leads legs (leg_at legs k).to ks t → Leads legs y ks t
  onward k y ks t small e l = subst (λ v. Leads legs v ks t) (joined.enters k small ∙ e) l

  ends_at_last : (ks : List ℕ) → Leads legs 3 ks 3 → ks ≡ []
  ends_at_last [] l = refl
  ends_at_last (k ∷ ks) l = absurd (from_last k l.0)

  ends_at_third : (ks : List ℕ) → Leads legs 2 ks 3 → ks ≡ 3 ∷ []
  ends_at_third [] e = absurd (let z : 2 ≡ 3 = e in omega arith)
  ends_at_third (k ∷ ks) l =
      let e = from_third k l.0 in
      let rest = onward 3 3 ks 3 (omega arith) refl (subst (λ j. Leads legs (leg_at legs j).to ks 3) e l.1) in
      ap (λ j. j ∷ ks) e ∙ ap (λ js. 3 ∷ js) (ends_at_last ks rest)

  ends_at_second : (ks : List ℕ) → Leads legs 1 ks 3 → (ks ≡ 1 ∷ []) ⊎ (ks ≡ 4 ∷ 3 ∷ [])
  ends_at_second [] e = absurd (let z : 1 ≡ 3 = e in omega arith)
  ends_at_second (k ∷ ks) l =
      ⊎_elim
      (λ e. let rest = onward 1 3 ks 3 (omega arith) refl (subst (λ j. Leads legs (leg_at legs j).to ks 3) e l.1) in
      inl (ap (λ j. j ∷ ks) e ∙ ap (λ js. 1 ∷ js) (ends_at_last ks rest)))
      (λ e. let rest = onward 4 2 ks 3 (omega arith) refl (subst (λ j. Leads legs (leg_at legs j).to ks 3) e l.1) in
      inr (ap (λ j. j ∷ ks) e ∙ ap (λ js. 4 ∷ js) (ends_at_third ks rest)))
      (from_second k l.0)

  -- from the first fix to the last only three lists of legs lead
  pub three_ways : (ks : List ℕ) → Leads legs 0 ks 3 → (ks ≡ 0 ∷ 1 ∷ []) ⊎ ((ks ≡ 0 ∷ 4 ∷ 3 ∷ []) ⊎ (ks ≡ 2 ∷ 3 ∷ []))
  three_ways [] e = absurd (let z : 0 ≡ 3 = e in omega arith)
  three_ways (k ∷ ks) l =
      ⊎_elim
      (λ e. let rest = onward 0 1 ks 3 (omega arith) refl (subst (λ j. Leads legs (leg_at legs j).to ks 3) e l.1) in
      ⊎_elim
      (λ f. inl (ap (λ j. j ∷ ks) e ∙ ap (λ js. 0 ∷ js) f))
      (λ f. inr (inl (ap (λ j. j ∷ ks) e ∙ ap (λ js. 0 ∷ js) f)))
      (ends_at_second ks rest))
      (λ e. let rest = onward 2 2 ks 3 (omega arith) refl (subst (λ j. Leads legs (leg_at legs j).to ks 3) e l.1) in
      inr (inr (ap (λ j. j ∷ ks) e ∙ ap (λ js. 2 ∷ js) (ends_at_third ks rest))))
      (from_first k l.0)
