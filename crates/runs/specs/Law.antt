-- The law of runs: what a run of calls replies, leaves in the memory, and makes of the plan.
use Rattle.std.specs.Prelude.{◌≡◌, ℕ, ◌+◌, ◌<◌, ◌≤◌, Bool, true, false, List, length, take, drop, Some, Ok, slice_get, codes}
use Rattle.std.specs.List.{count_by}
use Rattle.chart.specs.declared.leg.Leg.{Leg}
use Rattle.chart.specs.declared.Ends.{Ends}
use Rattle.chart.specs.Routes.{HasNoRepeats}
use Rattle.plan.specs.declared.filed.Filed.{Filed}
use Rattle.plan.specs.Ledgers.{Ledger, at_filing}
use Rattle.plan.specs.Plans.{chart_of, ends_of, revision_of, plan_legs, ledger_of}
use Rattle.runs.specs.declared.call.Call.{Call}
use Rattle.runs.specs.declared.reply.Reply.{Reply}
use Rattle.runs.specs.declared.reply.Reply.TheVariants as reply
use Rattle.runs.specs.declared.run.RunRefusal.{RunRefusal}
use Rattle.runs.specs.declared.run.RunRefusal.TheVariants.{FewReplies, ShortMemory}
use Rattle.runs.specs.Histories.{ledger_after_calls, granted_amendments, apply_all, call_places, all_places}
use Rattle.runs.specs.Outcomes.{outcome_of, question_of_reply}
use Rattle.runs.specs.RepliesTo.{IsReplyTo}

-- the part of the memory that a call is given, after the calls before it
abbrev pub part_of : List Call → Call → List ℕ → List ℕ
part_of before call memory = take (call_places call) (drop (all_places before) memory)

-- there is a reply for every call, and a place for every one that the route calls take
pub record HasRoomFor (calls : List Call) (replies memory : ℕ) : Type 0 where
  pub enough_replies : length calls ≤ replies
  pub enough_memory : all_places calls ≤ memory

-- which refusal a run has: too few replies come first
abbrev pub RunRefused : List Call → (replies memory : ℕ) → RunRefusal → Type 0
RunRefused calls replies memory FewReplies = replies < length calls
RunRefused calls replies memory ShortMemory = (length calls ≤ replies) × (memory < all_places calls)

-- and what it says in words
abbrev pub run_words : RunRefusal → List ℕ
run_words FewReplies = codes "fewer replies than calls"
run_words ShortMemory = codes "fewer places of memory than the route calls take"

-- Every call has its reply on the ledger that the calls before it have come to, with its own part of the memory. Replies
-- beyond the calls, and places beyond those that the route calls take, are what they were.
pub record AreRepliesTo (n : ℕ) (own : List Leg) (l : Ledger) (calls : List Call) (replies replies' : List Reply)
    (memory memory' : List ℕ) : Type 0 where
  pub is_reply : (i : ℕ) (c : Call) (r : Reply) → slice_get calls i ≡ Some c → slice_get replies' i ≡ Some r
      → IsReplyTo n (ledger_after_calls own l (take i calls)) c r (part_of (take i calls) c memory) (part_of (take i calls) c memory')
  pub as_many : length replies' ≡ length replies
  pub later_replies : drop (length calls) replies' ≡ drop (length calls) replies
  pub as_much : length memory' ≡ length memory
  pub later_memory : drop (all_places calls) memory' ≡ drop (all_places calls) memory

-- a reply grants an amendment
abbrev pub grants : Reply → Bool
grants (reply.Amend (Ok revision)) = true
grants _ = false

-- A run of calls on a plan that has the chart c and stands at the ledger l leaves the plan plan': every call has its reply,
-- the plan stands at the ledger that the calls come to, its revision has risen by the amendments that were granted, and its chart is what
-- it was.
pub record IsLawfulRun {C : Type 0} (fixes : C → ℕ) (legs : C → List Leg) (c : C) (l : Ledger) (calls : List Call)
    (replies replies' : List Reply) (memory memory' : List ℕ) (plan' : Filed C) : Type 0 where
  pub fits : HasRoomFor calls (length replies) (length memory)
  pub replied : AreRepliesTo (fixes c) (legs c) l calls replies replies' memory memory'
  pub ledger : ledger_of legs plan' ≡ ledger_after_calls (legs c) l calls
  pub counted : revision_of plan' ≡ l.revision + count_by grants (take (length calls) replies')
  pub chart : chart_of plan' ≡ c

-- what a plan comes to that is filed and then runs its calls: its revision is the number of amendments granted among them, its legs are
-- the chart's with just those applied, in their order, and no number stands twice among the amended ones
pub record IsRunFromFiling {C : Type 0} (legs : C → List Leg) (c : C) (ends : Ends) (calls : List Call) (plan' : Filed C) : Type 0 where
  pub counts : revision_of plan' ≡ length (granted_amendments (legs c) (at_filing (legs c) ends) calls)
  pub has_legs : plan_legs legs plan' ≡ apply_all (legs c) (legs c) (granted_amendments (legs c) (at_filing (legs c) ends) calls)
  pub no_repeats : HasNoRepeats (ledger_of legs plan').amended
  pub between : ends_of plan' ≡ ends

-- two runs of the same calls from the same ledger, replies and memory, that both keep the law, say the same to every call and leave the
-- same memory
abbrev pub RunsHaveOneOutcome : Type 0
RunsHaveOneOutcome =
    (n : ℕ) (own : List Leg) (l : Ledger) (calls : List Call) (replies replies' replies'' : List Reply) (memory memory' memory'' : List ℕ)
    → length calls ≤ length replies → AreRepliesTo n own l calls replies replies' memory memory'
    → AreRepliesTo n own l calls replies replies'' memory memory''
    → ((i : ℕ) (r r' : Reply) → i < length calls → slice_get replies' i ≡ Some r → slice_get replies'' i ≡ Some r'
    → (question_of_reply r ≡ question_of_reply r') × (outcome_of r ≡ outcome_of r')) × (memory' ≡ memory'')
