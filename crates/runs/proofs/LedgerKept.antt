-- What every history of calls keeps of a ledger.
use Rattle.std.proofs.Common.{◌≡◌, ℕ, ◌+◌, not, Bool, true, false, cond, List, [], ◌∷◌, ◌++◌, length, refl, sym, ap, ◌∙◌, add_assoc, inl, inr, ⊎_elim, ◌||◌, ◌⊎◌, arith}
use Rattle.std.specs.Prelude.{◌==◌, slice_set}
use Rattle.std.specs.List.{list_any}
use Rattle.std.proofs.lemmas.Bool.{eqb-false}
use Rattle.std.proofs.lemmas.List.{length-append}
use Rattle.chart.specs.declared.leg.Leg.{Leg}
use Rattle.chart.specs.Legs.{leg_at}
use Rattle.chart.specs.Routes.{IsIn, HasNoRepeats}
use Rattle.plan.specs.declared.amendment.Amendment.{Amendment}
use Rattle.plan.specs.declared.refusals.AmendRefusal.{AmendRefusal}
use Rattle.plan.specs.Amendments.{changed_leg, restores}
use Rattle.plan.specs.Ledgers.{Ledger, grounds, insert_number, remove_number, ledger_by, ledger_after}
use Rattle.runs.specs.declared.call.Call.{Call}
use Rattle.runs.specs.declared.call.Call.TheVariants.{Amend}
use Rattle.runs.specs.Histories.{ledger_after_call, ledger_after_calls, granted_amendments, granted_where, granted_by_call, apply_all, KeepsLedger, HistoriesKeepTheLedger, HistoriesJoin}

-- a history of no calls
no_calls_keep_ledger : (own : List Leg) (l : Ledger) → KeepsLedger own l []
unfolding ledger_after_calls granted_amendments apply_all
no_calls_keep_ledger own l = record { revision = omega arith; legs = refl; departure = refl; destination = refl; no_repeats = λ o. o }

apply_all_append : (own legs : List Leg) (xs ys : List Amendment) → apply_all own legs (xs ++ ys) ≡ apply_all own (apply_all own legs xs) ys
unfolding apply_all
apply_all_append own legs [] ys = refl
apply_all_append own legs (a ∷ xs) ys = apply_all_append own (slice_set legs a.leg (changed_leg (leg_at own a.leg) (leg_at legs a.leg) a.change)) xs ys

-- a number that is inserted, and one that is removed
module _ (k : ℕ) where
  in_removed_by : (b : Bool) (x y : ℕ) (ks : List ℕ) → (IsIn x (remove_number ks k) → IsIn x ks) → IsIn x (cond b (y ∷ remove_number ks k) (remove_number ks k)) → IsIn x (y ∷ ks)
  in_removed_by true x y ks later h = ⊎_elim (λ (e : x ≡ y). inl e) (λ (i : IsIn x (remove_number ks k)). inr (later i)) h
  in_removed_by false x y ks later h = inr (later h)

  in_removed : (x : ℕ) (ks : List ℕ) → IsIn x (remove_number ks k) → IsIn x ks
  in_removed x [] h = h
  in_removed x (y ∷ ks) h = in_removed_by (not (y == k)) x y ks (in_removed x ks) h

  no_repeats_removed_by : (b : Bool) (y : ℕ) (ks : List ℕ) → HasNoRepeats (y ∷ ks) → HasNoRepeats (remove_number ks k) → HasNoRepeats (cond b (y ∷ remove_number ks k) (remove_number ks k))
  no_repeats_removed_by true y ks o later = (λ i. o.0 (in_removed y ks i), later)
  no_repeats_removed_by false y ks o later = later

  no_repeats_removed : (ks : List ℕ) → HasNoRepeats ks → HasNoRepeats (remove_number ks k)
  no_repeats_removed [] o = o
  no_repeats_removed (y ∷ ks) o = no_repeats_removed_by (not (y == k)) y ks o (no_repeats_removed ks o.1)

  not_in_by : (b c : Bool) (y : ℕ) (ks : List ℕ) → (y == k) ≡ b → (c ≡ false → IsIn k ks → ⊥) → (b || c) ≡ false → IsIn k (y ∷ ks) → ⊥
  not_in_by true c y ks p later e h = let z : ◌≡◌ {A = ℕ} 1 0 = ap (λ b. cond b 1 0) e in absurd (omega arith)
  not_in_by false c y ks p later e h = ⊎_elim (λ (q : k ≡ y). absurd (eqb-false y k p (sym q))) (λ (i : IsIn k ks). later e i) h

  not_in : (ks : List ℕ) → list_any (λ j. j == k) ks ≡ false → IsIn k ks → ⊥
  not_in [] e h = h
  not_in (y ∷ ks) e h = not_in_by (y == k) (list_any (λ j. j == k) ks) y ks refl (not_in ks) e h

  in_more : (x : ℕ) (ks : List ℕ) → IsIn x (ks ++ k ∷ []) → IsIn x ks ⊎ (x ≡ k)
  in_more x [] h = ⊎_elim (λ (e : x ≡ k). inr e) (λ (i : ⊥). absurd i) h
  in_more x (y ∷ ks) h = ⊎_elim (λ (e : x ≡ y). inl (inl e)) (λ (i : IsIn x (ks ++ k ∷ [])). ⊎_elim (λ (j : IsIn x ks). inl (inr j)) (λ (e : x ≡ k). inr e) (in_more x ks i)) h

  no_repeats_more : (ks : List ℕ) → HasNoRepeats ks → (IsIn k ks → ⊥) → HasNoRepeats (ks ++ k ∷ [])
  no_repeats_more [] o n = (λ i. i, tt)
  no_repeats_more (y ∷ ks) o n = (λ i. ⊎_elim (λ (j : IsIn y ks). o.0 j) (λ (e : y ≡ k). n (inl (sym e))) (in_more y ks i), no_repeats_more ks o.1 (λ i. n (inr i)))

  no_repeats_inserted_by : (b : Bool) (ks : List ℕ) → list_any (λ j. j == k) ks ≡ b → HasNoRepeats ks → HasNoRepeats (cond b ks (ks ++ k ∷ []))
  no_repeats_inserted_by true ks e o = o
  no_repeats_inserted_by false ks e o = no_repeats_more ks o (not_in ks e)

  no_repeats_inserted : (ks : List ℕ) → HasNoRepeats ks → HasNoRepeats (insert_number ks k)
  no_repeats_inserted ks o = no_repeats_inserted_by (list_any (λ j. j == k) ks) ks refl o

no_repeats_after_change : (ks : List ℕ) (k : ℕ) (b : Bool) → HasNoRepeats ks → HasNoRepeats (cond b (remove_number ks k) (insert_number ks k))
no_repeats_after_change ks k true o = no_repeats_removed k ks o
no_repeats_after_change ks k false o = no_repeats_inserted k ks o

-- what one call keeps
record IsKeptByCall (own : List Leg) (l l' : Ledger) (list : List Amendment) : Type 0 where
  revision : l'.revision ≡ l.revision + length list
  legs : l'.legs ≡ apply_all own l.legs list
  departure : l'.departure ≡ l.departure
  destination : l'.destination ≡ l.destination
  no_repeats : HasNoRepeats l.amended → HasNoRepeats l'.amended

kept_unchanged : (own : List Leg) (l : Ledger) → IsKeptByCall own l l []
unfolding apply_all
kept_unchanged own l = record { revision = omega arith; legs = refl; departure = refl; destination = refl; no_repeats = λ o. o }

kept_by_grounds : (gs : List AmendRefusal) (own : List Leg) (l : Ledger) (a : Amendment) → IsKeptByCall own l (ledger_by gs own l a) (granted_where gs a)
unfolding apply_all
kept_by_grounds [] own l a = record { revision = refl; legs = refl; departure = refl; destination = refl; no_repeats = λ o. no_repeats_after_change l.amended a.leg (restores a.change) o }
kept_by_grounds (g ∷ gs) own l a = kept_unchanged own l

kept_by_call : (own : List Leg) (l : Ledger) (call : Call) → IsKeptByCall own l (ledger_after_call own l call) (granted_by_call l call)
unfolding ledger_after
kept_by_call own l (Amend a) = kept_by_grounds (grounds l a) own l a
kept_by_call own l _ = kept_unchanged own l

-- every history keeps it
pub histories_keep_the_ledger : HistoriesKeepTheLedger
unfolding ledger_after_calls granted_amendments
histories_keep_the_ledger own l [] = no_calls_keep_ledger own l
histories_keep_the_ledger own l (call ∷ calls) =
    let k = kept_by_call own l call in
    let later = histories_keep_the_ledger own (ledger_after_call own l call) calls in
    record {
      revision = later.revision ∙ ap (λ n. n + length (granted_amendments own (ledger_after_call own l call) calls)) k.revision ∙ add_assoc l.revision (length (granted_by_call l call)) (length (granted_amendments own (ledger_after_call own l call) calls)) ∙ ap (λ n. l.revision + n) (sym (length-append (granted_by_call l call) (granted_amendments own (ledger_after_call own l call) calls)));
      legs = later.legs ∙ ap (λ xs. apply_all own xs (granted_amendments own (ledger_after_call own l call) calls)) k.legs ∙ sym (apply_all_append own l.legs (granted_by_call l call) (granted_amendments own (ledger_after_call own l call) calls));
      departure = later.departure ∙ k.departure;
      destination = later.destination ∙ k.destination;
      no_repeats = λ o. later.no_repeats (k.no_repeats o);
    }

pub histories_join : HistoriesJoin
unfolding ledger_after_calls
histories_join own l [] more = refl
histories_join own l (call ∷ first) more = histories_join own (ledger_after_call own l call) first more
