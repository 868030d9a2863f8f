-- A command of a plan that is not granted leaves a session what it was.
use Rattle.std.proofs.Common.{◌≡◌, ℕ, ◌-◌, List, [], ◌∷◌, set, refl, sym, ap, ◌∙◌}
use Rattle.std.specs.Prelude.{Some, None, Option, Ok, Err, slice_get, ◌⊎◌}
use Rattle.std.proofs.Common.{inl, inr}
use Rattle.std.proofs.lemmas.List.{set-get_or}
use Rattle.std.proofs.lemmas.Option.{get_or_from_slice_get}
use Rattle.chart.specs.declared.leg.Leg.{Leg}
use Rattle.chart.specs.declared.Ends.{Ends}
use Rattle.chart.specs.Outcomes.{refused}
use Rattle.plan.specs.declared.closed.Status.{Status}
use Rattle.plan.specs.declared.amendment.Amendment.{Amendment}
use Rattle.plan.specs.declared.refusals.AmendRefusal.{AmendRefusal}
use Rattle.plan.specs.Refusals.{amend_number}
use Rattle.plan.specs.Ledgers.{Ledger, grounds, outcome_by_grounds, ledger_by, outcome_on, ledger_after}
use Rattle.runs.specs.declared.call.Call.{Call}
use Rattle.runs.specs.declared.call.Call.TheVariants as call
use Rattle.runs.specs.declared.reply.Reply.{Reply}
use Rattle.runs.specs.declared.reply.Reply.TheVariants as reply
use Rattle.runs.specs.Outcomes.{amend, outcome_of, question_of_reply}
use Rattle.runs.specs.Histories.{ledger_after_call}
use Rattle.runs.specs.RepliesTo.{IsReplyTo}
use Rattle.protocol.specs.declared.command.PlanCommand.{PlanCommand}
use Rattle.protocol.specs.declared.command.PlanCommand.TheVariants as asked
use Rattle.protocol.specs.declared.command.PlanCall.{PlanCall}
use Rattle.protocol.specs.declared.command.PlanCall.TheVariants as asked_call
use Rattle.protocol.specs.declared.reply_line.Answer.{Answer}
use Rattle.protocol.specs.declared.rejection.AnyRefusal.TheVariants as refusal
use Rattle.protocol.specs.declared.rejection.Rejection.{Rejection}
use Rattle.protocol.specs.declared.rejection.Rejection.TheVariants.{Refused, Fault, Unreadable, Unwritable, WrongState, Malformed}
use Rattle.console.specs.Models.{ChartModel, CurrentModel, PlanModel, vacant, draft, filed, closed, SessionModel}
use Rattle.console.specs.Calls.{answer_of}
use Rattle.console.specs.Steps.{drafted_from, filed_from, closed_from, Becomes, IsEndsAnswer, IsEndsStep, IsCallStep, IsPlanStep, StepsPlan, HasNoPlan}

-- an amendment that is refused leaves the ledger what it was
refused_by : (gs : List AmendRefusal) (own : List Leg) (l : Ledger) (a : Amendment) (number : ℕ) → refused number ≡ outcome_by_grounds gs l.revision → ledger_by gs own l a ≡ l
refused_by [] own l a number e = absurd (cc e)
refused_by (g ∷ gs) own l a number e = refl

refused_amendment : (own : List Leg) (l : Ledger) (a : Amendment) (number : ℕ) → refused number ≡ outcome_on l a → ledger_after own l a ≡ l
unfolding outcome_on ledger_after
refused_amendment own l a number e = refused_by (grounds l a) own l a number e

-- where a command that asked an amendment is rejected, the reply is a refusal
reply_refused : (r : Reply) (memory : List ℕ) (why : Rejection) → Err why ≡ answer_of r memory → question_of_reply r ≡ amend → (number : ℕ) × (refused number ≡ outcome_of r)
reply_refused (reply.Amend (Ok x)) memory why told q = absurd (cc told)
reply_refused (reply.Amend (Err x)) memory why told q = (amend_number x, refl)
reply_refused (reply.Route x) memory why told q = absurd (cc q)
reply_refused (reply.Regret x) memory why told q = absurd (cc q)
reply_refused (reply.Floor x) memory why told q = absurd (cc q)
reply_refused (reply.Quickest x) memory why told q = absurd (cc q)
reply_refused (reply.Level x) memory why told q = absurd (cc q)
reply_refused (reply.Status x) memory why told q = absurd (cc q)

call_refused : (own : List Leg) (n : ℕ) (l : Ledger) (c : Call) (r : Reply) (memory memory' : List ℕ) (why : Rejection) → IsReplyTo n l c r memory memory' → Err why ≡ answer_of r memory' → ledger_after_call own l c ≡ l
call_refused own n l (call.Amend a) r memory memory' why replied told =
    let p = reply_refused r memory' why told replied.question in
    refused_amendment own l a p.0 (p.1 ∙ replied.outcome.0)
call_refused own n l (call.Route x) r memory memory' why replied told = refl
call_refused own n l (call.Regret x) r memory memory' why replied told = refl
call_refused own n l (call.Floor x) r memory memory' why replied told = refl
call_refused own n l call.Quickest r memory memory' why replied told = refl
call_refused own n l call.Level r memory memory' why replied told = refl
call_refused own n l call.Status r memory memory' why replied told = refl

closed_refused : (status : Status) (call : PlanCall) (why : Rejection) (plan' : PlanModel) → IsCallStep call (closed status) (Err why) plan' → plan' ≡ closed status
closed_refused status (asked_call.Amend x) why plan' h = h.1
closed_refused status (asked_call.Route x) why plan' h = h.1
closed_refused status (asked_call.Regret x) why plan' h = h.1
closed_refused status (asked_call.Floor x) why plan' h = h.1
closed_refused status asked_call.Quickest why plan' h = h.1
closed_refused status asked_call.Level why plan' h = h.1
closed_refused status asked_call.Status why plan' h = h.1

call_step_refused : (call : PlanCall) (plan : PlanModel) (why : Rejection) (plan' : PlanModel) → IsCallStep call plan (Err why) plan' → plan' ≡ plan
call_step_refused call vacant why plan' h = h.1
call_step_refused call (draft chart ends) why plan' h = h.1
call_step_refused call (filed chart ledger) why plan' h = h.becomes ∙ ap (filed chart) (call_refused chart.legs chart.fixes ledger h.call h.reply h.memory h.memory' why h.replied h.told)
call_step_refused call (closed status) why plan' h = closed_refused status call why plan' h

becomes_refused : (next : Option PlanModel) (granted : Answer) (plan : PlanModel) (why : Rejection) (plan' : PlanModel) → Becomes next granted plan (Err why) plan' → plan' ≡ plan
becomes_refused (Some x) granted plan why plan' h = absurd (cc h.0)
becomes_refused None granted plan why plan' h = h.1

ends_refused : (chart : ChartModel) (before ends : Ends) (why : Rejection) (plan' : PlanModel) → IsEndsAnswer chart before ends (Err why) plan' → plan' ≡ draft chart before
ends_refused chart before ends (Refused (refusal.Ends x)) plan' h = h.1
ends_refused chart before ends (Refused (refusal.Lattice x)) plan' h = absurd h
ends_refused chart before ends (Refused (refusal.Name x)) plan' h = absurd h
ends_refused chart before ends (Refused (refusal.Amend x)) plan' h = absurd h
ends_refused chart before ends (Refused (refusal.Route x)) plan' h = absurd h
ends_refused chart before ends (Refused (refusal.Regret x)) plan' h = absurd h
ends_refused chart before ends (Refused (refusal.Floor x)) plan' h = absurd h
ends_refused chart before ends (Refused (refusal.Best x)) plan' h = absurd h
ends_refused chart before ends (Fault x) plan' h = absurd h
ends_refused chart before ends (Unreadable x) plan' h = absurd h
ends_refused chart before ends (Unwritable x) plan' h = absurd h
ends_refused chart before ends WrongState plan' h = absurd h
ends_refused chart before ends Malformed plan' h = absurd h

ends_step_refused : (ends : Ends) (plan : PlanModel) (why : Rejection) (plan' : PlanModel) → IsEndsStep ends plan (Err why) plan' → plan' ≡ plan
ends_step_refused ends vacant why plan' h = h.1
ends_step_refused ends (draft chart before) why plan' h = ends_refused chart before ends why plan' h
ends_step_refused ends (filed chart ledger) why plan' h = h.1
ends_step_refused ends (closed status) why plan' h = h.1

plan_refused : (current : Option CurrentModel) (number : ℕ) (a : PlanCommand) (plan : PlanModel) (why : Rejection) (plan' : PlanModel) → IsPlanStep current number a plan (Err why) plan' → plan' ≡ plan
plan_refused current number asked.Draft plan why plan' h = becomes_refused (drafted_from current plan) _ plan why plan' h
plan_refused current number (asked.Ends ends) plan why plan' h = ends_step_refused ends plan why plan' h
plan_refused current number asked.File plan why plan' h = becomes_refused (filed_from plan) _ plan why plan' h
plan_refused current number (asked.Call call) plan why plan' h = call_step_refused call plan why plan' h
plan_refused current number asked.Close plan why plan' h = becomes_refused (closed_from plan) _ plan why plan' h

-- a plan put back in its place
put_back : (plans : List PlanModel) (i : ℕ) (plan plan' : PlanModel) → slice_get plans i ≡ Some plan → plan' ≡ plan → set plans i plan' ≡ plans
put_back plans i plan plan' was same = ap (set plans i) (same ∙ sym (get_or_from_slice_get plans i plan plan was)) ∙ set-get_or plans i plan

pub plan_not_granted : (s : SessionModel) (number : ℕ) (a : PlanCommand) (why : Rejection) (s' : SessionModel) → StepsPlan s number a (Err why) s' ⊎ HasNoPlan s number (Err why) s' → s' ≡ s
plan_not_granted s number a why s' (inl h) =
    h.becomes ∙ ap (λ plans. record s { plans = plans }) (put_back s.plans (number - 1) h.before h.after h.was (plan_refused s.current number a h.before why h.after h.step))
plan_not_granted s number a why s' (inr h) = h.stays
