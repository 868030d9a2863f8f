-- The outcome of each call on a ledger: what is replied, and what the part of the memory that the call is given then holds.
use Rattle.std.specs.Prelude.{◌≡◌, ℕ, List}
use Rattle.chart.specs.Outcomes.{Outcome}
use Rattle.regret.specs.Answers.{IsRegretOutcome}
use Rattle.floor.specs.Answers.{IsFloorOutcome}
use Rattle.least.specs.Answers.{IsRouteOutcome}
use Rattle.plan.specs.Answers.{status_outcome, IsQuickestOutcome, IsLevelOutcome}
use Rattle.plan.specs.Ledgers.{Ledger, query_of, outcome_on}
use Rattle.plan.specs.Plans.{status_of}
use Rattle.runs.specs.declared.call.Call.{Call}
use Rattle.runs.specs.declared.call.Call.TheVariants as call
use Rattle.runs.specs.declared.reply.Reply.{Reply}
use Rattle.runs.specs.Outcomes.{outcome_of, question_of_call, question_of_reply}

-- the outcome of a call on a ledger of a plan of n fixes; a route call alone may write into its part of the memory
abbrev pub IsOutcomeOf : ℕ → Ledger → Call → List ℕ → Outcome → List ℕ → Type 0
IsOutcomeOf n l (call.Amend a) part s part' = (s ≡ outcome_on l a) × (part' ≡ part)
IsOutcomeOf n l (call.Route places) part s part' = IsRouteOutcome (query_of l) n part s part'
IsOutcomeOf n l (call.Regret list) part s part' = IsRegretOutcome (query_of l) list.now s × (part' ≡ part)
IsOutcomeOf n l (call.Floor chain) part s part' = IsFloorOutcome (query_of l) chain.now s × (part' ≡ part)
IsOutcomeOf n l call.Quickest part s part' = IsQuickestOutcome (query_of l) s × (part' ≡ part)
IsOutcomeOf n l call.Level part s part' = IsLevelOutcome (query_of l) s × (part' ≡ part)
IsOutcomeOf n l call.Status part s part' = (s ≡ status_outcome (status_of l)) × (part' ≡ part)

-- the reply answers the question of the call, and has its outcome
pub record IsReplyTo (n : ℕ) (l : Ledger) (c : Call) (r : Reply) (part part' : List ℕ) : Type 0 where
  pub question : question_of_reply r ≡ question_of_call c
  pub outcome : IsOutcomeOf n l c part (outcome_of r) part'
