-- What an amendment answers and leaves, granted or refused.
use Rattle.std.proofs.Common.{◌≡◌, ℕ, ◌+◌, true, false, cond, List, [], refl, sym, ap, ◌∙◌, arith}
use Rattle.std.specs.Prelude.{Some, None, Option, Ok, Err, slice_set}
use Rattle.chart.specs.declared.leg.Leg.{Leg}
use Rattle.chart.specs.Legs.{leg_at}
use Rattle.plan.specs.declared.amendment.AmendedLeg.{AmendedLeg}
use Rattle.plan.specs.declared.amendment.Amendment.{Amendment}
use Rattle.plan.specs.declared.amendment.Change.{Change}
use Rattle.plan.specs.declared.amendment.Change.TheVariants.{Close, Times, Restore}
use Rattle.plan.specs.declared.filed.Filed.{Filed}
use Rattle.plan.specs.declared.refusals.AmendRefusal.{AmendRefusal}
use Rattle.plan.specs.Amendments.{changed_leg, restores}
use Rattle.plan.specs.Ledgers.{Ledger, grounds, outcome_by_grounds, ledger_by, insert_number, remove_number, amended_after, amended_by, outcome_on, ledger_after}
use Rattle.plan.specs.Answers.{amend_outcome}
use Rattle.plan.specs.Overlays.{overlay_leg, overlay, amended_numbers}
use Rattle.plan.specs.Plans.{ledger_of}
use Rattle.plan.specs.internal.AmendedLegs.{IsFirstGround, IsEntryOf, set_amended, ChangesOnlyAmended}
use Rattle.plan.specs.laws.PlanLaws.{overlay_joins_same_fixes}
use Rattle.plan.proofs.InsertAndRemove.{overlay_insert, overlay_remove, numbers_insert, numbers_remove}
use Rattle.plan.proofs.FirstGrounds.{restored_is_own}

module _ (l : Ledger) (a : Amendment) where
  pub refused_answer : (e : AmendRefusal) → IsFirstGround l a e → amend_outcome (Err e) ≡ outcome_on l a
  unfolding outcome_on
  refused_answer e f = sym (ap (λ gs. outcome_by_grounds gs l.revision) f.1)

  pub refused_ledger : (own : List Leg) (e : AmendRefusal) → IsFirstGround l a e → l ≡ ledger_after own l a
  unfolding ledger_after
  refused_ledger own e f = sym (ap (λ gs. ledger_by gs own l a) f.1)

  pub granted_answer : grounds l a ≡ [] → amend_outcome (Ok (l.revision + 1)) ≡ outcome_on l a
  unfolding outcome_on
  granted_answer f = sym (ap (λ gs. outcome_by_grounds gs l.revision) f)

  granted_ledger : (own : List Leg) → grounds l a ≡ [] → amended_by own l a ≡ ledger_after own l a
  unfolding ledger_after
  granted_ledger own f = sym (ap (λ gs. ledger_by gs own l a) f)

not_both : false ≡ true → ⊥
not_both e = let z : ◌≡◌ {A = ℕ} 0 1 = ap (λ b. cond b 1 0) e in omega arith

-- only one change restores
restored : (change : Change) → restores change ≡ true → change ≡ Restore
restored Close e = absurd (not_both e)
restored (Times times) e = absurd (not_both e)
restored Restore e = refl

module _ (legs : List Leg) (amended : List AmendedLeg) (k : ℕ) (change : Change) where
  -- the legs of the plan once what is given stands
  legs_after_change : (r : Option AmendedLeg) → IsEntryOf k (leg_at (overlay legs amended) k) change r
      → overlay legs (set_amended amended k r) ≡ slice_set (overlay legs amended) k (changed_leg (leg_at legs k) (leg_at (overlay legs amended) k) change)
  legs_after_change None s =
      overlay_remove legs amended k
      ∙ ap (slice_set (overlay legs amended) k) (restored_is_own (leg_at legs k) (leg_at (overlay legs amended) k) ∙ ap (changed_leg (leg_at legs k) (leg_at (overlay legs amended) k)) (sym (restored change s)))
  legs_after_change (Some a) s =
      overlay_insert legs amended a
      ∙ ap (λ j. slice_set (overlay legs amended) j (overlay_leg (leg_at legs j) a)) s.1
      ∙ ap (slice_set (overlay legs amended) k) (s.2 (leg_at legs k) (overlay_joins_same_fixes legs amended k))

  -- and the numbers of those that stand amended
  numbers_after_change : (leg : Leg) (r : Option AmendedLeg) → IsEntryOf k leg change r → amended_numbers (set_amended amended k r) ≡ amended_after (amended_numbers amended) k change
  numbers_after_change leg None s = numbers_remove amended k ∙ sym (ap (λ b. cond b (remove_number (amended_numbers amended) k) (insert_number (amended_numbers amended) k)) s)
  numbers_after_change leg (Some a) s = numbers_insert amended a ∙ ap (insert_number (amended_numbers amended)) s.1 ∙ sym (ap (λ b. cond b (remove_number (amended_numbers amended) k) (insert_number (amended_numbers amended) k)) s.0)

-- the plan's ledger once its amendment is granted
module _ {C : Type 0} (legs : C → List Leg) (plan plan' : Filed C) (a : Amendment) where
  pub granted_plan : (r : Option AmendedLeg) (revision : ℕ) → grounds (ledger_of legs plan) a ≡ []
      → IsEntryOf a.leg (leg_at (overlay (legs plan.chart) plan.amended.items) a.leg) a.change r
      → ChangesOnlyAmended plan plan' (set_amended plan.amended.items a.leg r) → revision ≡ plan'.revision + 1
      → ◌≡◌ {A = Ledger} (record { revision = revision; legs = overlay (legs plan'.chart) plan'.amended.items; amended = amended_numbers plan'.amended.items; departure = plan'.ends.from; destination = plan'.ends.to })
      (ledger_after (legs plan.chart) (ledger_of legs plan) a)
  granted_plan r revision f s m e =
      (λ i. record {
        revision = (e ∙ ap (λ n. n + 1) m.revision) i;
        legs = (ap (λ c. overlay (legs c) plan'.amended.items) m.chart ∙ ap (overlay (legs plan.chart)) m.items ∙ legs_after_change (legs plan.chart) plan.amended.items a.leg a.change r s) i;
        amended = (ap amended_numbers m.items ∙ numbers_after_change (legs plan.chart) plan.amended.items a.leg a.change _ r s) i;
        departure = (m.ends i).from;
        destination = (m.ends i).to;
      })
      ∙ granted_ledger (ledger_of legs plan) a (legs plan.chart) f
