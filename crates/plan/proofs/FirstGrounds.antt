-- Which ground comes first, by what is known of each, and what an amendment makes of a leg.
use Rattle.std.proofs.Common.{◌≡◌, ℕ, zero, suc, ◌<◌, ◌≤◌, not, Bool, true, false, cond, List, [], ◌∷◌, ◌&&◌, ◌||◌, length, take, None, refl, sym, ap, ⊎_elim, ◌∙◌, arith}
use Rattle.std.specs.Prelude.{◌==◌, nat_lt, get_or, MatchBool, IsTrue, ◌↔◌, ⊤, ◌≢◌}
use Rattle.std.specs.List.{filter}
use Rattle.std.proofs.lemmas.Bool.{cases_lt, ne_eqb, ltb-true, ltb-false, cases_from_iff}
use Rattle.chart.specs.declared.leg.Leg.{Leg}
use Rattle.chart.specs.declared.row.Standing.TheVariants.{Open, Closed}
use Rattle.chart.specs.declared.interval.Interval.{Interval}
use Rattle.chart.specs.Legs.{leg_get}
use Rattle.chart.specs.Limits.{max_seconds}
use Rattle.chart.specs.Grid.{IsValidInterval}
use Rattle.chart.specs.Rows.{row_of_leg, leg_of}
use Rattle.chart.proofs.LegsByNumber.{leg_get_not_none}
use Rattle.chart.proofs.LegsOfRows.{leg_of_row_of_leg}
use Rattle.plan.specs.declared.amendment.AmendedLeg.{AmendedLeg}
use Rattle.plan.specs.declared.amendment.Amendment.{Amendment}
use Rattle.plan.specs.declared.amendment.Change.{Change}
use Rattle.plan.specs.declared.amendment.Change.TheVariants.{Close, Times, Restore}
use Rattle.plan.specs.declared.refusals.AmendRefusal.{AmendRefusal}
use Rattle.plan.specs.declared.refusals.AmendRefusal.TheVariants.{NotAmended, NoPlace}
use Rattle.plan.specs.Limits.{max_amended}
use Rattle.plan.specs.Amendments.{ChangeHasValidTimes, changed_leg, restores}
use Rattle.plan.specs.Ledgers.{Ledger, has_invalid_times, applies, all_grounds, grounds, is_amended}
use Rattle.plan.specs.Overlays.{overlay_leg}
use Rattle.plan.specs.internal.AmendedLegs.{JoinsSameFixes, IsFirstGround}

module _ {X : Type 0} (p : X → Bool) where
  -- none of a list passes
  abbrev pub NonePass : List X → Type 0
  NonePass [] = ⊤
  NonePass (x ∷ xs) = (p x ≡ false) × NonePass xs

  none_left : (xs : List X) → NonePass xs → filter p xs ≡ []
  none_left [] h = refl
  none_left (x ∷ xs) h = ap (λ b. cond b (x ∷ filter p xs) (filter p xs)) h.0 ∙ none_left xs h.1

  -- the first that passes is the first that is left
  first_left : (xs : List X) (d : X) (i : ℕ) → i < length xs → NonePass (take i xs) → p (get_or xs i d) ≡ true → (more : List X) × (filter p xs ≡ get_or xs i d ∷ more)
  first_left [] d i h n e = absurd (omega (arith, h))
  first_left (x ∷ xs) d zero h n e = (filter p xs, ap (λ b. cond b (x ∷ filter p xs) (filter p xs)) e)
  first_left (x ∷ xs) d (suc i) h n e =
      let later = first_left xs d i (omega (arith, h)) n.1 e in
      (later.0, ap (λ b. cond b (x ∷ filter p xs) (filter p xs)) n.0 ∙ later.1)

  -- where none before a place passes, and what stands there does not either, none before the next place does
  none_before_next : (xs : List X) (d : X) (i : ℕ) → i < length xs → NonePass (take i xs) → p (get_or xs i d) ≡ false → NonePass (take (suc i) xs)
  none_before_next [] d i h n e = absurd (omega (arith, h))
  none_before_next (x ∷ xs) d zero h n e = (e, tt)
  none_before_next (x ∷ xs) d (suc i) h n e = (n.0, none_before_next xs d i (omega (arith, h)) n.1 e)

-- times that are within their limits, and times that are not
interval_tells_invalid : (times : Interval) (a b c : Bool) → nat_lt times.high times.low ≡ a → nat_lt max_seconds times.high ≡ b → MatchBool c (IsValidInterval times) (IsValidInterval times → ⊥) → (a || b) ≡ not c
interval_tells_invalid times true b true p q h = absurd (omega (arith, h.ordered, ltb-true times.high times.low p))
interval_tells_invalid times true b false p q h = refl
interval_tells_invalid times false true true p q h = absurd (omega (arith, h.bounded, ltb-true max_seconds times.high q))
interval_tells_invalid times false true false p q h = refl
interval_tells_invalid times false false true p q h = refl
interval_tells_invalid times false false false p q h = absurd (h (record { ordered = ltb-false times.high times.low p; bounded = ltb-false max_seconds times.high q }))

tells_invalid : (change : Change) (b : Bool) → MatchBool b (ChangeHasValidTimes change) (ChangeHasValidTimes change → ⊥) → has_invalid_times change ≡ not b
tells_invalid Close true h = refl
tells_invalid Close false h = absurd (h tt)
tells_invalid Restore true h = refl
tells_invalid Restore false h = absurd (h tt)
tells_invalid (Times times) b h = interval_tells_invalid times (nat_lt times.high times.low) (nat_lt max_seconds times.high) b refl refl h

pub check_tells_invalid : (change : Change) (b : Bool) → (IsTrue b ↔ ChangeHasValidTimes change) → has_invalid_times change ≡ not b
check_tells_invalid change b h = tells_invalid change b (cases_from_iff h)

module _ (l : Ledger) (a : Amendment) where
  -- the ground at a place in their order
  abbrev pub ground_at : ℕ → AmendRefusal
  ground_at i = get_or all_grounds i NoPlace

  -- no ground before a place applies
  abbrev pub NoneBefore : ℕ → Type 0
  NoneBefore i = NonePass (applies l a) (take i all_grounds)

  -- where no ground before a place applies, the one at the place is the first if it applies
  pub first_ground : (i : ℕ) → i < length all_grounds → NoneBefore i → applies l a (ground_at i) ≡ true → IsFirstGround l a (ground_at i)
  unfolding grounds
  first_ground i h n e = first_left (applies l a) all_grounds NoPlace i h n e

  -- and none before the next place applies if it does not
  pub next_place : (i : ℕ) → i < length all_grounds → NoneBefore i → applies l a (ground_at i) ≡ false → NoneBefore (suc i)
  next_place i h n e = none_before_next (applies l a) all_grounds NoPlace i h n e

  none_apply : NoneBefore 4 → applies l a NotAmended ≡ false → applies l a NoPlace ≡ false → grounds l a ≡ []
  unfolding grounds
  none_apply n r p = none_left (applies l a) all_grounds (next_place 5 (omega arith) (next_place 4 (omega arith) n r) p)

  and-none : (b : Bool) → (b && false) ≡ false
  and-none true = refl
  and-none false = refl

  -- a leg that stands amended has its place
  pub free_where_amended : NoneBefore 4 → is_amended l a.leg ≡ true → grounds l a ≡ []
  free_where_amended n s =
      none_apply n
      (ap (λ b. restores a.change && not b) s ∙ and-none (restores a.change))
      (ap (λ b. not (restores a.change) && (not b && (length l.amended == max_amended))) s ∙ and-none (not (restores a.change)))

  -- and another one a free place
  pub free_where_room : NoneBefore 4 → restores a.change ≡ false → length l.amended ≢ max_amended → grounds l a ≡ []
  free_where_room n r f =
      none_apply n
      (ap (λ b. b && not (is_amended l a.leg)) r)
      (ap (λ b. not (restores a.change) && (not (is_amended l a.leg) && b)) (ne_eqb (length l.amended) max_amended f)
      ∙ ap (λ b. not (restores a.change) && b) (and-none (not (is_amended l a.leg))) ∙ and-none (not (restores a.change)))

module _ (own leg : Leg) (a : AmendedLeg) (s : JoinsSameFixes own leg) where
  row_of_overlay : row_of_leg (overlay_leg own a) ≡ record { from = leg.from; to = leg.to; low = a.times.low; high = a.times.high; top = leg.top; standing = a.standing }
  unfolding overlay_leg
  row_of_overlay = λ i. record { from = s.from i; to = s.to i; low = a.times.low; high = a.times.high; top = s.top i; standing = a.standing }

  -- what stands of a leg that is closed
  pub closed_overlay : a.times.low ≡ leg.low → a.times.high ≡ leg.high → a.standing ≡ Closed → overlay_leg own a ≡ changed_leg own leg Close
  unfolding changed_leg
  closed_overlay p q r =
      leg_of_row_of_leg (overlay_leg own a)
      ∙ ap leg_of (row_of_overlay ∙ (λ i. record { from = leg.from; to = leg.to; low = p i; high = q i; top = leg.top; standing = r i }))

  -- and of one that has new times
  pub timed_overlay : (times : Interval) → a.times ≡ times → a.standing ≡ Open → overlay_leg own a ≡ changed_leg own leg (Times times)
  unfolding changed_leg
  timed_overlay times p r =
      leg_of_row_of_leg (overlay_leg own a)
      ∙ ap leg_of (row_of_overlay ∙ (λ i. record { from = leg.from; to = leg.to; low = (p i).low; high = (p i).high; top = leg.top; standing = r i }))

-- a leg that is the chart's own again
pub restored_is_own : (own leg : Leg) → own ≡ changed_leg own leg Restore
unfolding changed_leg
restored_is_own own leg = leg_of_row_of_leg own

-- less than a bound that it is not
pub below_if_not : (a b : ℕ) → a ≤ b → a ≢ b → a < b
below_if_not a b h n = ⊎_elim (λ (l : a < b). l) (λ (g : b ≤ a). absurd (n (omega (arith, h, g)))) (cases_lt a b)

-- no leg of a number that is answered with none
pub past_the_legs : (legs : List Leg) (k : ℕ) → None ≡ leg_get legs k → length legs ≤ k
past_the_legs legs k e = ⊎_elim (λ (h : k < length legs). absurd (leg_get_not_none legs k h (sym e))) (λ (h : length legs ≤ k). h) (cases_lt k (length legs))
