-- What a read of one leg, one height or one margin says.
use Rattle.std.proofs.Common.{◌≡◌, ℕ, ◌+◌, ◌*◌, ◌<◌, ◌≤◌, Bool, true, false, IsTrue, ◌↔◌, cond, List, get_or, Some, None, Option, MatchOption, replicate, sym, refl, ap, ◌∙◌, subst, ⊎_elim, arith}
use Rattle.std.specs.Bool.{then_some}
use Rattle.std.proofs.lemmas.Bool.{cases_lt, lt-ltb, le-ltb}
use Rattle.std.proofs.lemmas.List.{get_or-replicate, length-replicate, get_or_past}
use Rattle.std.proofs.Math.Dec.{ltb}
use Rattle.chart.specs.declared.leg.Leg.{Leg}
use Rattle.chart.specs.Legs.{leg_get}
use Rattle.pursuit.specs.declared.margins.TheConstants.{PURSUIT_FIXES}
use Rattle.chart.specs.Regret.{Query}
use Rattle.chart.proofs.LegsByNumber.{leg_get_some, leg_get_not_none}
use Rattle.pursuit.specs.Answers.{margin_at}
use Rattle.pursuit.specs.internal.Margins.{IsServingLeg}

-- in a list of one value that value is found at every place, past its end too
pub all_equal : {X : Type 0} (x : X) (n i : ℕ) → get_or (replicate n x) i x ≡ x
all_equal x n i = ⊎_elim (λ (lt : i < n). get_or-replicate n i x x lt) (λ (past : n ≤ i). get_or_past (replicate n x) i x (let e = length-replicate n x in omega arith)) (cases_lt i n)

module _ (fixes : ℕ) (margins : List ℕ) (a b : ℕ) where
  pub margin_there : a < fixes → b < fixes → get_or margins (PURSUIT_FIXES * a + b) 0 ≡ margin_at fixes margins a b
  unfolding margin_at
  margin_there p q =
      let x : margin_at fixes margins a b ≡ cond (ltb b fixes) (get_or margins (PURSUIT_FIXES * a + b) 0) 0 = ap (λ r. cond r (cond (ltb b fixes) (get_or margins (PURSUIT_FIXES * a + b) 0) 0) 0) (lt-ltb a fixes p) in
      sym (x ∙ ap (λ r. cond r (get_or margins (PURSUIT_FIXES * a + b) 0) 0) (lt-ltb b fixes q))

  pub margin_past_route : fixes ≤ a → 0 ≡ margin_at fixes margins a b
  unfolding margin_at
  margin_past_route p = sym (ap (λ r. cond r (cond (ltb b fixes) (get_or margins (PURSUIT_FIXES * a + b) 0) 0) 0) (le-ltb a fixes p))

  pub margin_past_rival : a < fixes → fixes ≤ b → 0 ≡ margin_at fixes margins a b
  unfolding margin_at
  margin_past_rival p q =
      let x : margin_at fixes margins a b ≡ cond (ltb b fixes) (get_or margins (PURSUIT_FIXES * a + b) 0) 0 = ap (λ r. cond r (cond (ltb b fixes) (get_or margins (PURSUIT_FIXES * a + b) 0) 0) 0) (lt-ltb a fixes p) in
      sym (x ∙ ap (λ r. cond r (get_or margins (PURSUIT_FIXES * a + b) 0) 0) (le-ltb b fixes q))

-- a leg that was read, and tested for whether it serves
module _ (S : ℕ → ℕ → Leg → Type 0) (t : Query) (k : ℕ) where
  pub no_leg_read : None ≡ leg_get t.legs k → IsServingLeg S t k None
  no_leg_read e l = leg_get_not_none t.legs k l.there (sym e)

  module _ (leg : Leg) (is : Some leg ≡ leg_get t.legs k) where
    pub leg_serves : S t.source t.destination leg → IsServingLeg S t k (Some leg)
    leg_serves s = let r = leg_get_some t.legs k leg is in (r.1, record { there = r.0; serves = subst (λ l. S t.source t.destination l) r.1 s })

    pub leg_not_served : (S t.source t.destination leg → ⊥) → IsServingLeg S t k None
    leg_not_served n l = let r = leg_get_some t.legs k leg is in n (subst (λ l. S t.source t.destination l) (sym r.1) l.serves)

  -- what a filter by the test leaves of the leg that was read
  pub filtered_serves : (o r : Option Leg) (P : Leg → Bool → Type 0) → o ≡ leg_get t.legs k → MatchOption o (r ≡ None) (λ l. (b : Bool) × P l b × (r ≡ then_some b l)) →
      ((l : Leg) (b : Bool) → P l b → IsTrue b ↔ S t.source t.destination l) → IsServingLeg S t k r
  filtered_serves None r P is m test = rw m (no_leg_read is)
  filtered_serves (Some l) r P is m test = rw m.2 (by_test m.0 (test l m.0 m.1))
    where
      by_test : (b : Bool) → IsTrue b ↔ S t.source t.destination l → IsServingLeg S t k (then_some b l)
      by_test true on = leg_serves l is (on.0 refl)
      by_test false off = leg_not_served l is (λ s. let e = off.1 s in cc)
