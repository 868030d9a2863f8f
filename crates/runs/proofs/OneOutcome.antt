-- A call has one outcome.
use Rattle.std.proofs.Common.{◌≡◌, ℕ, zero, suc, ◌+◌, ◌<◌, ◌≤◌, List, ◌++◌, length, take, drop, refl, sym, ap, ◌∙◌, subst, arith}
use Rattle.std.specs.Prelude.{Some, Err, slice_get, get_or}
use Rattle.std.proofs.lemmas.Option.{slice_get-get_or}
use Rattle.std.proofs.lemmas.List.{length-take, length-drop, take-append-drop, take-take, drop-take, take_all, take_more}
use Rattle.chart.specs.Outcomes.{Outcome}
use Rattle.chart.specs.declared.leg.Leg.{Leg}
use Rattle.regret.proofs.OneRegretOutcome.{regret_outcome_is_one}
use Rattle.floor.proofs.OneFloorOutcome.{floor_outcome_is_one}
use Rattle.least.proofs.OneRouteOutcome.{route_outcome_is_one}
use Rattle.plan.proofs.OneBestOutcome.{quickest_outcome_is_one, level_outcome_is_one}
use Rattle.plan.specs.declared.refusals.BestRefusal.TheVariants.{NoRoute as BestNoRoute}
use Rattle.plan.specs.Ledgers.{Ledger, query_of}
use Rattle.runs.specs.declared.call.Call.{Call}
use Rattle.runs.specs.declared.call.Call.TheVariants as call
use Rattle.runs.specs.declared.reply.Reply.{Reply}
use Rattle.runs.specs.declared.reply.Reply.TheVariants as reply
use Rattle.runs.specs.Outcomes.{outcome_of, question_of_reply}
use Rattle.runs.specs.Histories.{ledger_after_calls, call_places, all_places}
use Rattle.runs.specs.Law.{part_of, AreRepliesTo, RunsHaveOneOutcome}
use Rattle.runs.proofs.OneMoreCall.{places_of_one_more}
use Rattle.runs.specs.RepliesTo.{IsOutcomeOf}

-- a call has one outcome on a ledger, and leaves its part of the memory in one way
outcome_is_one :
    (n : ℕ) (l : Ledger) (c : Call) (part part' part'' : List ℕ) (s s' : Outcome) → length part' ≡ length part → length part'' ≡ length part
    → IsOutcomeOf n l c part s part' → IsOutcomeOf n l c part s' part'' → (s ≡ s') × (part' ≡ part'')
outcome_is_one n l (call.Route places) part part' part'' s s' e e' x y = route_outcome_is_one (query_of l) n part part' part'' e e' s s' x y
outcome_is_one n l (call.Regret list) part part' part'' s s' e e' x y = (regret_outcome_is_one (query_of l) list.now s s' x.0 y.0, x.1 ∙ sym y.1)
outcome_is_one n l (call.Floor chain) part part' part'' s s' e e' x y = (floor_outcome_is_one (query_of l) chain.now s s' x.0 y.0, x.1 ∙ sym y.1)
outcome_is_one n l call.Quickest part part' part'' s s' e e' x y = (quickest_outcome_is_one (query_of l) s s' x.0 y.0, x.1 ∙ sym y.1)
outcome_is_one n l call.Level part part' part'' s s' e e' x y = (level_outcome_is_one (query_of l) s s' x.0 y.0, x.1 ∙ sym y.1)
outcome_is_one n l _ part part' part'' s s' e e' x y = (x.0 ∙ sym y.0, x.1 ∙ sym y.1)

-- a stretch of a list, as what comes before an end of it and what lies up to that end
take_two : (a p : ℕ) (m : List ℕ) → take (a + p) m ≡ take a m ++ take p (drop a m)
take_two a p m =
    sym (take-append-drop a (take (a + p) m))
    ∙ (λ i. take-take a (a + p) m (omega arith) i ++ drop-take a p m i)

module _ (n : ℕ) (own : List Leg) (l : Ledger) (calls : List Call) (replies replies' replies'' : List Reply) (memory memory' memory'' : List ℕ)
    (x : AreRepliesTo n own l calls replies replies' memory memory') (y : AreRepliesTo n own l calls replies replies'' memory memory'') (room : length calls ≤ length replies) where
  part_as_long : (before : List Call) (c : Call) (m : List ℕ) → length m ≡ length memory → length (part_of before c m) ≡ length (part_of before c memory)
  part_as_long before c m e =
      let a = length-take (call_places c) (drop (all_places before) m) in
      let b = length-drop (all_places before) m in
      let a' = length-take (call_places c) (drop (all_places before) memory) in
      let b' = length-drop (all_places before) memory in
      omega (arith, a, b, a', b', e)

  reply_is_one : (i : ℕ) (c : Call) (r r' : Reply) → slice_get calls i ≡ Some c → slice_get replies' i ≡ Some r → slice_get replies'' i ≡ Some r'
      → (question_of_reply r ≡ question_of_reply r') × (outcome_of r ≡ outcome_of r') × (part_of (take i calls) c memory' ≡ part_of (take i calls) c memory'')
  reply_is_one i c r r' p q q' =
      let o = x.is_reply i c r p q in
      let o' = y.is_reply i c r' p q' in
      let e = outcome_is_one n (ledger_after_calls own l (take i calls)) c (part_of (take i calls) c memory) _ _ (outcome_of r) (outcome_of r') (part_as_long (take i calls) c memory' x.as_much) (part_as_long (take i calls) c memory'' y.as_much) o.outcome o'.outcome in
      (o.question ∙ sym o'.question, e.0, e.1)

  same_memory : (i : ℕ) → i ≤ length calls → take (all_places (take i calls)) memory' ≡ take (all_places (take i calls)) memory''
  same_memory zero h = refl
  same_memory (suc i) h =
      let c = get_or calls i call.Quickest in
      let lt : i < length calls = omega (arith, h) in
      let a = all_places (take i calls) in
      let r = get_or replies' i (reply.Level (Err BestNoRoute)) in
      let one = reply_is_one i c r (get_or replies'' i r)
      (slice_get-get_or calls i call.Quickest lt)
      (slice_get-get_or replies' i (reply.Level (Err BestNoRoute)) (omega (arith, lt, room, x.as_many)))
      (slice_get-get_or replies'' i r (omega (arith, lt, room, y.as_many))) in
      let up : suc i ≡ i + 1 = omega arith in
      let e : all_places (take (suc i) calls) ≡ a + call_places c = ap (λ k. all_places (take k calls)) up ∙ ap all_places (take_more calls i call.Quickest lt) ∙ places_of_one_more (take i calls) c in
      ap (λ k. take k memory') e ∙ take_two a (call_places c) memory'
      ∙ (λ j. same_memory i (omega (arith, h)) j ++ one.2 j)
      ∙ sym (ap (λ k. take k memory'') e ∙ take_two a (call_places c) memory'')

  whole_memory : memory' ≡ memory''
  whole_memory =
      let a = all_places calls in
      let s = subst (λ cs. take (all_places cs) memory' ≡ take (all_places cs) memory'') (take_all (length calls) calls (omega arith)) (same_memory (length calls) (omega arith)) in
      sym (take-append-drop a memory') ∙ (λ j. s j ++ (x.later_memory ∙ sym y.later_memory) j) ∙ take-append-drop a memory''

pub runs_have_one_outcome : RunsHaveOneOutcome
runs_have_one_outcome n own l calls replies replies' replies'' memory memory' memory'' room x y = (
  λ i r r' h q q'.
      let o = reply_is_one n own l calls replies replies' replies'' memory memory' memory'' x y room i (get_or calls i call.Quickest) r r' (slice_get-get_or calls i call.Quickest h) q q' in
      (o.0, o.1),
  whole_memory n own l calls replies replies' replies'' memory memory' memory'' x y room,
)
