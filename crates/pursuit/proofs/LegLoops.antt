-- Loops over the legs that leave a fix: what holds of each leg that has passed, and what holds of the best of them.
use Rattle.std.proofs.Common.{◌≡◌, ℕ, ◌+◌, ◌<◌, ◌≤◌, max, List, [], ◌∷◌, length, sym, ◌∙◌, subst, ⊎_elim, arith}
use Rattle.std.specs.Ordering.{ord_max, nat_cmp}
use Rattle.std.proofs.lemmas.Bool.{cases_eq, cases_lt}
use Rattle.std.proofs.lemmas.Bool.Decides.{nat_tests}
use Rattle.chart.specs.declared.leg.Leg.{Leg}
use Rattle.chart.specs.Legs.{leg_at}
use Rattle.chart.specs.Regret.{Query}
use Rattle.search.specs.LegsLeaving.{legs_leaving}
use Rattle.search.proofs.LegsLeaving.{leaving_goes_on, leaving_ends}
use Rattle.pursuit.specs.Pursuits.{RouteKeeps, HasCountermove}

-- the larger number, as std finds it, is one of the two
pub larger_is : (x y z : ℕ) → z ≡ ord_max nat_cmp x y → z ≡ max x y
larger_is x y z e = grind (arith, nat_tests)

-- In a loop over the legs that leave the fix v, where `left` are still to come, P holds of those that have passed.
pub record HoldsOfPassedLegs (legs : List Leg) (v : ℕ) (P : ℕ → Type 0) (left : List ℕ) : Type 0 where
  pub low : ℕ
  pub others : left ≡ legs_leaving legs v low
  pub passed : (k : ℕ) → k < low → k < length legs → (leg_at legs k).from ≡ v → P k

module _ {legs : List Leg} {v : ℕ} (P : ℕ → Type 0) {left : List ℕ} where
  pub passed_start : left ≡ legs_leaving legs v 0 → HoldsOfPassedLegs legs v P left
  passed_start e = record { low = 0; others = e; passed = λ k lt. absurd (omega arith) }

  module _ (so_far : HoldsOfPassedLegs legs v P left) where
    pub passed_here : (k : ℕ) (rest : List ℕ) → left ≡ k ∷ rest → (k < length legs) × ((leg_at legs k).from ≡ v)
    passed_here k rest e = let next = leaving_goes_on legs v (sym so_far.others ∙ e) in (next.0.there, next.0.leaves)

    pub passed_on : (Q : ℕ → Type 0) (k : ℕ) (rest : List ℕ) → left ≡ k ∷ rest → ((j : ℕ) → P j → Q j) → Q k → HoldsOfPassedLegs legs v Q rest
    passed_on Q k rest e keeps new =
        let next = leaving_goes_on legs v (sym so_far.others ∙ e) in
        record {
          low = k + 1;
          others = next.1;
          passed = λ j lt there from.
              ⊎_elim
              (λ (l : j < so_far.low). keeps j (so_far.passed j l there from))
              (λ (ge : so_far.low ≤ j). ⊎_elim
              (λ (s : j ≡ k). subst Q (sym s) new)
              (λ ne. absurd (next.0.gap j ge (omega arith) from))
              (cases_eq j k))
              (cases_lt j so_far.low);
        }

    pub passed_end : left ≡ [] → (k : ℕ) → k < length legs → (leg_at legs k).from ≡ v → P k
    passed_end e k there from =
        let none = leaving_ends legs v (sym so_far.others ∙ e) in
        ⊎_elim
        (λ (l : k < so_far.low). so_far.passed k l there from)
        (λ (ge : so_far.low ≤ k). absurd (none k ge there from))
        (cases_lt k so_far.low)

-- In a loop over the legs that leave the fix v, some leg has P for the largest number x so far, unless that is 0.
pub record IsBestSoFar (legs : List Leg) (v : ℕ) (P : ℕ → ℕ → Type 0) (x : ℕ) (left : List ℕ) : Type 0 where
  pub passed : HoldsOfPassedLegs legs v (λ k. Unit {0}) left
  pub found : 1 ≤ x → (k : ℕ) × ((leg_at legs k).from ≡ v) × P x k

module _ {legs : List Leg} {v : ℕ} (P : ℕ → ℕ → Type 0) {left : List ℕ} where
  pub best_so_far_start : left ≡ legs_leaving legs v 0 → IsBestSoFar legs v P 0 left
  best_so_far_start e = record { passed = passed_start (λ k. Unit {0}) e; found = λ one. absurd (omega arith) }

  pub best_so_far_on : (x y z : ℕ) → z ≡ max x y → IsBestSoFar legs v P x left → (k : ℕ) (rest : List ℕ) → left ≡ k ∷ rest → P y k → IsBestSoFar legs v P z rest
  best_so_far_on x y z m so_far k rest e new =
      let here = passed_here (λ k. Unit {0}) so_far.passed k rest e in
      record {
        passed = passed_on (λ k. Unit {0}) so_far.passed (λ k. Unit {0}) k rest e (λ j p. tt) tt;
        found = λ one. ⊎_elim
            (λ (lt : x < y). let s : y ≡ z = omega arith in (k, here.1, subst (λ n. P n k) s new))
            (λ (ge : y ≤ x). let s : x ≡ z = omega arith in let old = so_far.found (omega arith) in (old.0, old.1, subst (λ n. P n old.0) s old.2))
            (cases_lt x y);
      }

-- The least margin that each leg of the route keeps, of those that have passed.
module _ (t : Query) (margin : ℕ → ℕ → ℕ) where
  pub route_less : (b x y e : ℕ) → y ≤ x → RouteKeeps t margin b x e → RouteKeeps t margin b y e
  route_less b x y e le k one leg = let h = k (omega arith) leg in (h.0, omega (arith, h.1))

  pub countermove_less : (a x y e : ℕ) → y ≤ x → HasCountermove t margin a x e → HasCountermove t margin a y e
  countermove_less a x y e le k one leg =
      let h = k (omega arith) leg in
      (h.0, h.1, λ o. let r = h.2 (omega arith) in (r.0, r.1, omega (arith, r.2)))

  module _ {a : ℕ} {left : List ℕ} where
    pub route_on : (b x y z : ℕ) → z ≤ x → z ≤ y → HoldsOfPassedLegs t.legs a (RouteKeeps t margin b x) left → (k : ℕ) (rest : List ℕ) → left ≡ k ∷ rest → RouteKeeps t margin b y k → HoldsOfPassedLegs t.legs a (RouteKeeps t margin b z) rest
    route_on b x y z p q so_far k rest e new =
        passed_on (RouteKeeps t margin b x) so_far (RouteKeeps t margin b z) k rest e (λ j h. route_less b x z j p h) (route_less b y z k q new)

    pub countermove_on : (x y z : ℕ) → z ≤ x → z ≤ y → HoldsOfPassedLegs t.legs a (HasCountermove t margin a x) left → (k : ℕ) (rest : List ℕ) → left ≡ k ∷ rest → HasCountermove t margin a y k → HoldsOfPassedLegs t.legs a (HasCountermove t margin a z) rest
    countermove_on x y z p q so_far k rest e new =
        passed_on (HasCountermove t margin a x) so_far (HasCountermove t margin a z) k rest e (λ j h. countermove_less a x z j p h) (countermove_less a y z k q new)
