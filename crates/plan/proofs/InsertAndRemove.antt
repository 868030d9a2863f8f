-- What inserting an amended leg, and removing it, does to the legs of a plan and to the numbers of the amended.
use Rattle.std.proofs.Common.{◌≡◌, ℕ, ◌<◌, ◌≤◌, not, Bool, true, false, cond, List, [], ◌∷◌, ◌++◌, ◌||◌, zero, suc, length, refl, sym, ap, ◌∙◌, subst, ⊎_elim, take, append-nil, drop_of_length-le, arith}
use Rattle.std.specs.Prelude.{MatchOption, Some, None, is_some, Option, ◌==◌, nat_lt, slice_set, slice_index_or, ◌≢◌}
use Rattle.std.specs.List.{list_any, position_or_len, refill}
use Rattle.std.proofs.lemmas.Bool.{cases_lt, eqb-true, eqb-false, eq-eqb, ne_eqb, ltb-true, ltb-false}
use Rattle.std.proofs.lemmas.List.{set-set, set_comm, set-get_or, get_or-set_other, length-map, length-set, take_all}
use Rattle.std.proofs.Math.ListN.{get_or-map}
use Rattle.std.proofs.lemmas.List.Sums.{passes_at_first, fails_before_first}
use Rattle.std.proofs.lemmas.Grind.{get_or-set_at}
use Rattle.chart.specs.declared.row.Standing.TheVariants.{Closed}
use Rattle.chart.specs.declared.leg.Leg.{Leg}
use Rattle.chart.specs.Legs.{leg_at, no_leg, leg_get}
use Rattle.chart.proofs.LegsByNumber.{leg_get_there, leg_get_past, leg_get_not_none, leg_get_some}
use Rattle.plan.specs.declared.amendment.AmendedLeg.{AmendedLeg}
use Rattle.plan.specs.Overlays.{overlay_leg, overlay, amended_numbers}
use Rattle.plan.specs.Ledgers.{insert_number, remove_number}
use Rattle.plan.specs.laws.PlanLaws.{length_overlay}
use Rattle.plan.specs.internal.AmendedLegs.{place_of, insert_amended, remove_amended}

-- i is the first place of the number k in a list
pub record IsFirstAt (ks : List ℕ) (k i : ℕ) : Type 0 where
  pub there : i < length ks
  pub is : slice_index_or ks i 0 ≡ k
  pub before : (j : ℕ) → j < i → slice_index_or ks j 0 ≢ k

-- the first place of the number k, or none where it is not in the list
abbrev pub IsFirstPlace : List ℕ → ℕ → Option ℕ → Type 0
IsFirstPlace ks k r = MatchOption r ((j : ℕ) → j < length ks → slice_index_or ks j 0 ≢ k) (IsFirstAt ks k)

module _ (legs : List Leg) where
  overlay_insert_first : (b : Bool) (x : AmendedLeg) (more : List AmendedLeg) (a : AmendedLeg) → (x.number == a.number) ≡ b
      → overlay legs (insert_amended more a) ≡ slice_set (overlay legs more) a.number (overlay_leg (leg_at legs a.number) a)
      → overlay legs (cond b (a ∷ more) (x ∷ insert_amended more a)) ≡ slice_set (overlay legs (x ∷ more)) a.number (overlay_leg (leg_at legs a.number) a)
  unfolding overlay
  overlay_insert_first true x more a e later =
      sym (ap (λ n. slice_set (slice_set (overlay legs more) n (overlay_leg (leg_at legs n) x)) a.number (overlay_leg (leg_at legs a.number) a)) (eqb-true x.number a.number e)
      ∙ set-set (overlay legs more) a.number (overlay_leg (leg_at legs a.number) x) (overlay_leg (leg_at legs a.number) a))
  overlay_insert_first false x more a e later =
      ap (λ xs. slice_set xs x.number (overlay_leg (leg_at legs x.number) x)) later
      ∙ sym (set_comm (overlay legs more) x.number a.number (overlay_leg (leg_at legs x.number) x) (overlay_leg (leg_at legs a.number) a) (eqb-false x.number a.number e))

  -- the leg that is inserted stands in the plan
  pub overlay_insert : (amended : List AmendedLeg) (a : AmendedLeg) → overlay legs (insert_amended amended a) ≡ slice_set (overlay legs amended) a.number (overlay_leg (leg_at legs a.number) a)
  unfolding overlay
  overlay_insert [] a = refl
  overlay_insert (x ∷ more) a = overlay_insert_first (x.number == a.number) x more a refl (overlay_insert more a)

  overlay_remove_first : (b : Bool) (x : AmendedLeg) (more : List AmendedLeg) (k : ℕ) → (x.number == k) ≡ b
      → overlay legs (remove_amended more k) ≡ slice_set (overlay legs more) k (leg_at legs k)
      → overlay legs (cond (not b) (x ∷ remove_amended more k) (remove_amended more k)) ≡ slice_set (overlay legs (x ∷ more)) k (leg_at legs k)
  unfolding overlay
  overlay_remove_first true x more k e later =
      later
      ∙ sym (ap (λ n. slice_set (slice_set (overlay legs more) n (overlay_leg (leg_at legs n) x)) k (leg_at legs k)) (eqb-true x.number k e)
      ∙ set-set (overlay legs more) k (overlay_leg (leg_at legs k) x) (leg_at legs k))
  overlay_remove_first false x more k e later =
      ap (λ xs. slice_set xs x.number (overlay_leg (leg_at legs x.number) x)) later
      ∙ sym (set_comm (overlay legs more) x.number k (overlay_leg (leg_at legs x.number) x) (leg_at legs k) (eqb-false x.number k e))

  -- the leg that is removed is the chart's own again
  pub overlay_remove : (amended : List AmendedLeg) (k : ℕ) → overlay legs (remove_amended amended k) ≡ slice_set (overlay legs amended) k (leg_at legs k)
  unfolding overlay leg_at
  overlay_remove [] k = sym (set-get_or legs k no_leg)
  overlay_remove (x ∷ more) k = overlay_remove_first (x.number == k) x more k refl (overlay_remove more k)

numbers_insert_first : (b c : Bool) (x : AmendedLeg) (more : List AmendedLeg) (a : AmendedLeg) → (x.number == a.number) ≡ b
    → amended_numbers (insert_amended more a) ≡ cond c (amended_numbers more) (amended_numbers more ++ a.number ∷ [])
    → amended_numbers (cond b (a ∷ more) (x ∷ insert_amended more a)) ≡ cond (b || c) (amended_numbers (x ∷ more)) (amended_numbers (x ∷ more) ++ a.number ∷ [])
numbers_insert_first true c x more a e later = ap (λ n. n ∷ amended_numbers more) (sym (eqb-true x.number a.number e))
numbers_insert_first false true x more a e later = ap (λ ns. x.number ∷ ns) later
numbers_insert_first false false x more a e later = ap (λ ns. x.number ∷ ns) later

-- the number of what is inserted is inserted unless it is there
pub numbers_insert : (amended : List AmendedLeg) (a : AmendedLeg) → amended_numbers (insert_amended amended a) ≡ insert_number (amended_numbers amended) a.number
numbers_insert [] a = refl
numbers_insert (x ∷ more) a = numbers_insert_first (x.number == a.number) (list_any (λ j. j == a.number) (amended_numbers more)) x more a refl (numbers_insert more a)

numbers_remove_first : (b : Bool) (x : AmendedLeg) (more : List AmendedLeg) (k : ℕ)
    → amended_numbers (remove_amended more k) ≡ remove_number (amended_numbers more) k
    → amended_numbers (cond b (x ∷ remove_amended more k) (remove_amended more k)) ≡ cond b (x.number ∷ remove_number (amended_numbers more) k) (remove_number (amended_numbers more) k)
numbers_remove_first true x more k later = ap (λ ns. x.number ∷ ns) later
numbers_remove_first false x more k later = later

-- the number of what is removed is removed
pub numbers_remove : (amended : List AmendedLeg) (k : ℕ) → amended_numbers (remove_amended amended k) ≡ remove_number (amended_numbers amended) k
numbers_remove [] k = refl
numbers_remove (x ∷ more) k = numbers_remove_first (not (x.number == k)) x more k (numbers_remove more k)

-- where the number is in the list, what is inserted takes its place
pub insert_in_place : (amended : List AmendedLeg) (a : AmendedLeg) (i : ℕ) → IsFirstAt (amended_numbers amended) a.number i → insert_amended amended a ≡ slice_set amended i a
insert_in_place [] a i f = absurd (omega (arith, f.there))
insert_in_place (x ∷ more) a zero f = ap (λ b. cond b (a ∷ more) (x ∷ insert_amended more a)) (eq-eqb x.number a.number f.is)
insert_in_place (x ∷ more) a (suc i) f =
    ap (λ b. cond b (a ∷ more) (x ∷ insert_amended more a)) (ne_eqb x.number a.number (f.before 0 (omega arith)))
    ∙ ap (λ xs. x ∷ xs) (insert_in_place more a i (record { there = omega (arith, f.there); is = f.is; before = λ j h. f.before (suc j) (omega arith) }))

-- where it is not, what is inserted comes behind
pub insert_behind : (amended : List AmendedLeg) (a : AmendedLeg) → IsFirstPlace (amended_numbers amended) a.number None → insert_amended amended a ≡ amended ++ a ∷ []
insert_behind [] a f = refl
insert_behind (x ∷ more) a f =
    ap (λ b. cond b (a ∷ more) (x ∷ insert_amended more a)) (ne_eqb x.number a.number (f 0 (omega arith)))
    ∙ ap (λ xs. x ∷ xs) (insert_behind more a (λ j h. f (suc j) (omega arith)))

-- whether a number is in a list, by its first place
pub has_number_by_place : (ks : List ℕ) (k i : ℕ) → IsFirstAt ks k i → list_any (λ j. j == k) ks ≡ true
has_number_by_place [] k i f = absurd (omega (arith, f.there))
has_number_by_place (x ∷ ks) k zero f = ap (λ b. b || list_any (λ j. j == k) ks) (eq-eqb x k f.is)
has_number_by_place (x ∷ ks) k (suc i) f =
    ap (λ b. b || list_any (λ j. j == k) ks) (ne_eqb x k (f.before 0 (omega arith)))
    ∙ has_number_by_place ks k i (record { there = omega (arith, f.there); is = f.is; before = λ j h. f.before (suc j) (omega arith) })

pub has_no_number_by_place : (ks : List ℕ) (k : ℕ) → IsFirstPlace ks k None → list_any (λ j. j == k) ks ≡ false
has_no_number_by_place [] k f = refl
has_no_number_by_place (x ∷ ks) k f =
    ap (λ b. b || list_any (λ j. j == k) ks) (ne_eqb x k (f 0 (omega arith)))
    ∙ has_no_number_by_place ks k (λ j h. f (suc j) (omega arith))

-- the plan's leg where its number is not among the amended, and where it is
module _ (legs : List Leg) where
  pub plan_leg_own : (amended : List AmendedLeg) (k : ℕ) → IsFirstPlace (amended_numbers amended) k None → leg_at (overlay legs amended) k ≡ leg_at legs k
  unfolding overlay leg_at
  plan_leg_own [] k f = refl
  plan_leg_own (x ∷ more) k f =
      get_or-set_other (overlay legs more) x.number k (overlay_leg (leg_at legs x.number) x) no_leg (λ e. f 0 (omega arith) (sym e))
      ∙ plan_leg_own more k (λ j h. f (suc j) (omega arith))

  pub plan_leg_amended : (amended : List AmendedLeg) (k i : ℕ) (d : AmendedLeg) → k < length legs → IsFirstAt (amended_numbers amended) k i → leg_at (overlay legs amended) k ≡ overlay_leg (leg_at legs k) (slice_index_or amended i d)
  unfolding overlay leg_at
  plan_leg_amended [] k i d h f = absurd (omega (arith, f.there))
  plan_leg_amended (x ∷ more) k zero d h f =
      get_or-set_at (overlay legs more) x.number k (overlay_leg (leg_at legs x.number) x) no_leg (sym f.is) (omega (arith, h, f.is, length_overlay legs more))
      ∙ ap (λ n. overlay_leg (leg_at legs n) x) f.is
  plan_leg_amended (x ∷ more) k (suc i) d h f =
      get_or-set_other (overlay legs more) x.number k (overlay_leg (leg_at legs x.number) x) no_leg (λ e. f.before 0 (omega arith) (sym e))
      ∙ plan_leg_amended more k i d h (record { there = omega (arith, f.there); is = f.is; before = λ j l. f.before (suc j) (omega arith) })

-- an amended leg, to stand where a list has none
no_amended : AmendedLeg
no_amended = record { number = 0; times = record { low = 0; high = 0 }; standing = Closed; ordered = omega arith; bounded = omega arith }

number_at : (amended : List AmendedLeg) (j : ℕ) → slice_index_or (amended_numbers amended) j 0 ≡ (slice_index_or amended j no_amended).number
unfolding no_amended
number_at amended j = get_or-map (λ (a : AmendedLeg). a.number) amended j no_amended

first_place_by : (amended : List AmendedLeg) (k : ℕ) (b : Bool)
    → let p = position_or_len (λ (a : AmendedLeg). a.number == k) amended in nat_lt p (length amended) ≡ b
    → IsFirstPlace (amended_numbers amended) k (cond b (Some p) None)
first_place_by amended k true e =
    let p = position_or_len (λ (a : AmendedLeg). a.number == k) amended in
    let h : p < length amended = ltb-true p (length amended) e in
    record {
      there = omega (arith, h, length-map amended (λ (a : AmendedLeg). a.number));
      is = number_at amended p ∙ eqb-true _ k (passes_at_first (λ (a : AmendedLeg). a.number == k) amended no_amended h);
      before = λ j l q. eqb-false _ k (fails_before_first (λ (a : AmendedLeg). a.number == k) amended j no_amended l) (sym (number_at amended j) ∙ q);
    }
first_place_by amended k false e =
    λ j l q. eqb-false _ k (fails_before_first (λ (a : AmendedLeg). a.number == k) amended j no_amended (omega (arith, l, ltb-false _ (length amended) e, length-map amended (λ (a : AmendedLeg). a.number)))) (sym (number_at amended j) ∙ q)

-- what was found among the amended legs is the first place of the number
pub is_first_place : (amended : List AmendedLeg) (k : ℕ) (r : Option ℕ) → r ≡ place_of amended k → IsFirstPlace (amended_numbers amended) k r
is_first_place amended k r e = subst (IsFirstPlace (amended_numbers amended) k) (sym e) (first_place_by amended k (nat_lt (position_or_len (λ (a : AmendedLeg). a.number == k) amended) (length amended)) refl)

-- the amended legs as they are written back
refilled : (amended written : List AmendedLeg) → length written ≡ length amended → refill (length amended) amended written ≡ written
refilled amended written e =
    ap (λ rest. take (length amended) (written ++ rest)) (drop_of_length-le amended (omega arith))
    ∙ ap (take (length amended)) (append-nil written)
    ∙ take_all (length amended) written (omega arith)

pub insert_written : (amended lent : List AmendedLeg) (a : AmendedLeg) (i : ℕ) → lent ≡ amended → Some i ≡ place_of amended a.number → refill (length amended) amended (slice_set lent i a) ≡ insert_amended amended a
insert_written amended lent a i e p =
    ap (λ xs. refill (length amended) amended (slice_set xs i a)) e
    ∙ refilled amended (slice_set amended i a) (length-set amended i a)
    ∙ sym (insert_in_place amended a i (is_first_place amended a.number (Some i) p))

pub insert_pushed : (amended : List AmendedLeg) (a : AmendedLeg) → None ≡ place_of amended a.number → amended ++ a ∷ [] ≡ insert_amended amended a
insert_pushed amended a p = sym (insert_behind amended a (is_first_place amended a.number None p))

-- the plan's leg, as it is answered
module _ (legs : List Leg) (amended : List AmendedLeg) (k : ℕ) where
  pub plan_leg_none : None ≡ leg_get legs k → None ≡ leg_get (overlay legs amended) k
  plan_leg_none e =
      ⊎_elim
      (λ (h : k < length legs). absurd (leg_get_not_none legs k h (sym e)))
      (λ (h : length legs ≤ k). sym (leg_get_past (overlay legs amended) k (omega (arith, h, length_overlay legs amended))))
      (cases_lt k (length legs))

  plan_leg_some : (own leg : Leg) → Some own ≡ leg_get legs k → leg ≡ leg_at (overlay legs amended) k → Some leg ≡ leg_get (overlay legs amended) k
  plan_leg_some own leg e q =
      let h = (leg_get_some legs k own e).0 in
      ap Some q ∙ sym (leg_get_there (overlay legs amended) k (omega (arith, h, length_overlay legs amended)))

  pub plan_leg_some_own : (own : Leg) → Some own ≡ leg_get legs k → None ≡ place_of amended k → Some own ≡ leg_get (overlay legs amended) k
  plan_leg_some_own own e p = plan_leg_some own own e ((leg_get_some legs k own e).1 ∙ sym (plan_leg_own legs amended k (is_first_place amended k None p)))

  pub plan_leg_some_amended : (own : Leg) (i : ℕ) (a : AmendedLeg) → Some own ≡ leg_get legs k → Some i ≡ place_of amended k → a ≡ slice_index_or amended i a → Some (overlay_leg own a) ≡ leg_get (overlay legs amended) k
  plan_leg_some_amended own i a e p q =
      let s = leg_get_some legs k own e in
      plan_leg_some own (overlay_leg own a) e
      (ap (λ x. overlay_leg x a) s.1 ∙ ap (overlay_leg (leg_at legs k)) q ∙ sym (plan_leg_amended legs amended k i a s.0 (is_first_place amended k (Some i) p)))

-- whether the leg of a number stands amended, by its place
pub is_amended_by_place : (amended : List AmendedLeg) (k : ℕ) → is_some (place_of amended k) ≡ list_any (λ j. j == k) (amended_numbers amended)
is_amended_by_place amended k = by_place (place_of amended k) refl
  where
    by_place : (r : Option ℕ) → r ≡ place_of amended k → is_some r ≡ list_any (λ j. j == k) (amended_numbers amended)
    by_place None p = sym (has_no_number_by_place (amended_numbers amended) k (is_first_place amended k None p))
    by_place (Some i) p = sym (has_number_by_place (amended_numbers amended) k i (is_first_place amended k (Some i) p))
