-- The legs of the four-fix chart whatever their standings, and which lists of them are routes.
use Rattle.std.proofs.Common.{◌≡◌, ℕ, zero, suc, ◌<◌, ◌≤◌, List, [], ◌∷◌, length, sym, refl, ap, ◌∙◌, subst, ⊎_elim, arith}
use Rattle.chart.specs.declared.row.Row.{Row}
use Rattle.chart.specs.declared.row.Standing.{Standing}
use Rattle.chart.specs.declared.row.Standing.TheVariants.{Open, Closed}
use Rattle.chart.specs.declared.leg.Leg.{Leg}
use Rattle.chart.specs.Limits.{max_seconds, max_level}
use Rattle.chart.specs.Legs.{leg_at}
use Rattle.chart.specs.Rows.{row_of_leg, row_at, IsValidRow, AreValidRows}
use Rattle.chart.specs.Routes.{Leaves, IsRouteBetween}
use Rattle.chart.specs.laws.Rows.{row_of_leg_of_valid, length_legs, leg_at_legs}
use Rattle.worked_examples.specs.FourFix.{row, four_fix_rows, legs_of_rows}
use Rattle.worked_examples.proofs.FourFixHasThreeRoutes.{JoinsFourFixes, three_ways}

-- the rows of the chart, with a standing for each
abbrev pub rows_with : (a b c d e : Standing) → List Row
rows_with a b c d e =
    row 0 1 300 400 390 a
    ∷ row 1 3 300 500 350 b
    ∷ row 0 2 200 600 410 c
    ∷ row 2 3 250 450 370 d
    ∷ row 1 2 50 100 330 e
    ∷ []

unfoldable pub legs_with : (a b c d e : Standing) → List Leg
legs_with a b c d e = legs_of_rows (rows_with a b c d e)

-- a row is valid by comparisons of its numbers
valid_row : (from to low high top : ℕ) (s : Standing) → from < 4 → to < 4 → (from ≡ to → ⊥) → low ≤ high → high ≤ max_seconds → top ≤ max_level → IsValidRow 4 (row from to low high top s)
valid_row from to low high top s f t a o b l = record { valid_times = record { ordered = o; bounded = b; level = l }; valid_fixes = record { leaves = f; enters = t; apart = a } }

pub closed_open : (s : Standing) → s ≡ Closed → s ≡ Open → ⊥
closed_open s p q = let z : ◌≡◌ {A = ℕ} 0 1 = cc in omega arith

module _ (a b c d e : Standing) where
  rows_valid : AreValidRows 4 (rows_with a b c d e) 5
  rows_valid zero h = valid_row 0 1 300 400 390 a (omega arith) (omega arith) (λ z. omega arith) (omega arith) (omega arith) (omega arith)
  rows_valid (suc zero) h = valid_row 1 3 300 500 350 b (omega arith) (omega arith) (λ z. omega arith) (omega arith) (omega arith) (omega arith)
  rows_valid (suc (suc zero)) h = valid_row 0 2 200 600 410 c (omega arith) (omega arith) (λ z. omega arith) (omega arith) (omega arith) (omega arith)
  rows_valid (suc (suc (suc zero))) h = valid_row 2 3 250 450 370 d (omega arith) (omega arith) (λ z. omega arith) (omega arith) (omega arith) (omega arith)
  rows_valid (suc (suc (suc (suc zero)))) h = valid_row 1 2 50 100 330 e (omega arith) (omega arith) (λ z. omega arith) (omega arith) (omega arith) (omega arith)
  rows_valid (suc (suc (suc (suc (suc k))))) h = absurd (omega arith)

  -- the numbers of each leg
  pub leg_is : (k : ℕ) → k < 5 → row_of_leg (leg_at (legs_with a b c d e) k) ≡ row_at (rows_with a b c d e) k
  unfolding legs_with
  leg_is k h = ap row_of_leg (leg_at_legs (rows_with a b c d e) k h) ∙ row_of_leg_of_valid 4 (row_at (rows_with a b c d e) k) (rows_valid k h)

  pub five_legs : length (legs_with a b c d e) ≡ 5
  unfolding legs_with
  five_legs = length_legs (rows_with a b c d e)

  from_same : (k : ℕ) → k < 5 → (row_at (rows_with a b c d e) k).from ≡ (row_at four_fix_rows k).from
  from_same zero h = refl
  from_same (suc zero) h = refl
  from_same (suc (suc zero)) h = refl
  from_same (suc (suc (suc zero))) h = refl
  from_same (suc (suc (suc (suc zero)))) h = refl
  from_same (suc (suc (suc (suc (suc k))))) h = absurd (omega arith)

  to_same : (k : ℕ) → k < 5 → (row_at (rows_with a b c d e) k).to ≡ (row_at four_fix_rows k).to
  to_same zero h = refl
  to_same (suc zero) h = refl
  to_same (suc (suc zero)) h = refl
  to_same (suc (suc (suc zero))) h = refl
  to_same (suc (suc (suc (suc zero)))) h = refl
  to_same (suc (suc (suc (suc (suc k))))) h = absurd (omega arith)

  pub joined : JoinsFourFixes (legs_with a b c d e)
  joined = record {
    five = five_legs;
    leaves = λ k h. ap (λ (r : Row). r.from) (leg_is k h) ∙ from_same k h;
    enters = λ k h. ap (λ (r : Row). r.to) (leg_is k h) ∙ to_same k h;
  }

  leaves : (k s : ℕ) → k < 5 → (row_at (rows_with a b c d e) k).from ≡ s → (row_at (rows_with a b c d e) k).standing ≡ Open → Leaves (legs_with a b c d e) s k
  leaves k s h f o = record { there = omega (arith, five_legs); is_open = ap (λ (r : Row). r.standing) (leg_is k h) ∙ o; from = ap (λ (r : Row). r.from) (leg_is k h) ∙ f }

  to : (k x : ℕ) → k < 5 → (row_at (rows_with a b c d e) k).to ≡ x → (leg_at (legs_with a b c d e) k).to ≡ x
  to k x h f = ap (λ (r : Row). r.to) (leg_is k h) ∙ f

  pub by_one : a ≡ Open → b ≡ Open → IsRouteBetween (legs_with a b c d e) 0 3 (0 ∷ 1 ∷ [])
  by_one oa ob =
      let t0 = to 0 1 (omega arith) refl in
      let t1 = to 1 3 (omega arith) refl in
      record {
        chain = record {
          leads = (leaves 0 0 (omega arith) refl oa, (subst (λ v. Leaves (legs_with a b c d e) v 1) (sym t0) (leaves 1 1 (omega arith) refl ob), t1));
          once = (
            (λ i. ⊎_elim (λ f. omega arith) (λ j. ⊎_elim (λ f. omega arith) (λ n. n) j) i),
            ((λ i. ⊎_elim (λ f. omega arith) (λ n. n) i), ((λ n. n), tt)),
          );
        };
        some = omega arith;
      }

  pub by_two : c ≡ Open → d ≡ Open → IsRouteBetween (legs_with a b c d e) 0 3 (2 ∷ 3 ∷ [])
  by_two oc od =
      let t2 = to 2 2 (omega arith) refl in
      let t3 = to 3 3 (omega arith) refl in
      record {
        chain = record {
          leads = (leaves 2 0 (omega arith) refl oc, (subst (λ v. Leaves (legs_with a b c d e) v 3) (sym t2) (leaves 3 2 (omega arith) refl od), t3));
          once = (
            (λ i. ⊎_elim (λ f. omega arith) (λ j. ⊎_elim (λ f. omega arith) (λ n. n) j) i),
            ((λ i. ⊎_elim (λ f. omega arith) (λ n. n) i), ((λ n. n), tt)),
          );
        };
        some = omega arith;
      }

  pub by_one_and_two : a ≡ Open → e ≡ Open → d ≡ Open → IsRouteBetween (legs_with a b c d e) 0 3 (0 ∷ 4 ∷ 3 ∷ [])
  by_one_and_two oa oe od =
      let t0 = to 0 1 (omega arith) refl in
      let t4 = to 4 2 (omega arith) refl in
      let t3 = to 3 3 (omega arith) refl in
      record {
        chain = record {
          leads = (
            leaves 0 0 (omega arith) refl oa,
            (
              subst (λ v. Leaves (legs_with a b c d e) v 4) (sym t0) (leaves 4 1 (omega arith) refl oe),
              (subst (λ v. Leaves (legs_with a b c d e) v 3) (sym t4) (leaves 3 2 (omega arith) refl od), t3),
            ),
          );
          once = (
            (λ i. ⊎_elim (λ f. omega arith) (λ j. ⊎_elim (λ f. omega arith) (λ l. ⊎_elim (λ f. omega arith) (λ n. n) l) j) i),
            (
              (λ i. ⊎_elim (λ f. omega arith) (λ j. ⊎_elim (λ f. omega arith) (λ n. n) j) i),
              ((λ i. ⊎_elim (λ f. omega arith) (λ n. n) i), ((λ n. n), tt)),
            ),
          );
        };
        some = omega arith;
      }

  -- the legs of a route are open
  pub second_open : (k j : ℕ) (ks : List ℕ) → j < 5 → IsRouteBetween (legs_with a b c d e) 0 3 (k ∷ j ∷ ks) → (row_at (rows_with a b c d e) j).standing ≡ Open
  second_open k j ks h r = sym (ap (λ (x : Row). x.standing) (leg_is j h)) ∙ r.chain.leads.1.0.is_open

  -- what holds of each of the three lists that is a route holds of every route
  pub of_every_route : (P : List ℕ → Type 0) →
      (IsRouteBetween (legs_with a b c d e) 0 3 (0 ∷ 1 ∷ []) → P (0 ∷ 1 ∷ [])) →
      (IsRouteBetween (legs_with a b c d e) 0 3 (0 ∷ 4 ∷ 3 ∷ []) → P (0 ∷ 4 ∷ 3 ∷ [])) →
      (IsRouteBetween (legs_with a b c d e) 0 3 (2 ∷ 3 ∷ []) → P (2 ∷ 3 ∷ [])) →
      (q : List ℕ) → IsRouteBetween (legs_with a b c d e) 0 3 q → P q
  of_every_route P one both two q r =
      let R : List ℕ → Type 0 = λ l. IsRouteBetween (legs_with a b c d e) 0 3 l in
      ⊎_elim (λ f. subst P (sym f) (one (subst R f r))) (λ o. ⊎_elim (λ f. subst P (sym f) (both (subst R f r))) (λ f. subst P (sym f) (two (subst R f r))) o)
      (three_ways (legs_with a b c d e) joined q r.chain.leads)
