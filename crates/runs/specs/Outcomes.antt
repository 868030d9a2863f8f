-- The outcome of a reply, and the question that it answers.
use Rattle.chart.specs.Outcomes.{Outcome}
use Rattle.regret.specs.Answers.{regret_outcome}
use Rattle.floor.specs.Answers.{floor_outcome}
use Rattle.least.specs.Answers.{route_outcome}
use Rattle.plan.specs.Answers.{amend_outcome, quickest_outcome, level_outcome, status_outcome}
use Rattle.runs.specs.declared.call.Call.{Call}
use Rattle.runs.specs.declared.call.Call.TheVariants as call
use Rattle.runs.specs.declared.reply.Reply.{Reply}
use Rattle.runs.specs.declared.reply.Reply.TheVariants as reply

-- the outcome of a reply is that of the answer which it holds
abbrev pub outcome_of : Reply → Outcome
outcome_of (reply.Amend r) = amend_outcome r
outcome_of (reply.Route r) = route_outcome r
outcome_of (reply.Regret r) = regret_outcome r
outcome_of (reply.Floor r) = floor_outcome r
outcome_of (reply.Quickest r) = quickest_outcome r
outcome_of (reply.Level r) = level_outcome r
outcome_of (reply.Status s) = status_outcome s

-- the seven questions
pub data Question : Type 0 where
  amend : Question
  route : Question
  regret : Question
  floor : Question
  quickest : Question
  level : Question
  status : Question

-- which one a call asks
abbrev pub question_of_call : Call → Question
question_of_call (call.Amend amendment) = amend
question_of_call (call.Route places) = route
question_of_call (call.Regret list) = regret
question_of_call (call.Floor chain) = floor
question_of_call call.Quickest = quickest
question_of_call call.Level = level
question_of_call call.Status = status

-- and which one a reply answers
abbrev pub question_of_reply : Reply → Question
question_of_reply (reply.Amend r) = amend
question_of_reply (reply.Route r) = route
question_of_reply (reply.Regret r) = regret
question_of_reply (reply.Floor r) = floor
question_of_reply (reply.Quickest r) = quickest
question_of_reply (reply.Level r) = level
question_of_reply (reply.Status s) = status
