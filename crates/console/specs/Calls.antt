-- The calls of plans that commands ask, and the answers that tell what is replied to them.
use Rattle.std.specs.Prelude.{◌≡◌, ℕ, min, List, take, unwrap_or, ⊤, Ok, Err, Result}
use Rattle.runs.specs.declared.call.Call.{Call}
use Rattle.runs.specs.declared.call.Call.TheVariants as call
use Rattle.runs.specs.declared.reply.Reply.{Reply}
use Rattle.runs.specs.declared.reply.Reply.TheVariants as reply
use Rattle.protocol.specs.declared.command.PlanCall.{PlanCall}
use Rattle.protocol.specs.declared.command.PlanCall.TheVariants as asked
use Rattle.protocol.specs.declared.reply_line.Answer.{Answer}
use Rattle.protocol.specs.declared.reply_line.Answer.TheVariants as answer
use Rattle.protocol.specs.declared.rejection.AnyRefusal.TheVariants as refusal
use Rattle.protocol.specs.declared.rejection.Rejection.{Rejection}
use Rattle.protocol.specs.declared.rejection.Rejection.TheVariants.{Refused, WrongState}

-- a command is out of turn
abbrev pub IsOutOfTurn : Result Answer Rejection → Type 0
IsOutOfTurn result = result ≡ Err WrongState

-- The call of a filed plan that a command asks, with the same values. A route takes the places that the command says, and `most` where it
-- says no number or a larger one: no route has more than `most` legs, so more places change no answer.
abbrev pub IsCallOf : PlanCall → (most : ℕ) → Call → Type 0
IsCallOf (asked.Amend amendment) most (call.Amend given) = given ≡ amendment
IsCallOf (asked.Route places) most (call.Route given) = given ≡ min (unwrap_or places most) most
IsCallOf (asked.Regret list) most (call.Regret given) = given.now ≡ list.items
IsCallOf (asked.Floor chain) most (call.Floor given) = given.now ≡ chain.items
IsCallOf asked.Quickest most call.Quickest = ⊤
IsCallOf asked.Level most call.Level = ⊤
IsCallOf asked.Status most call.Status = ⊤
IsCallOf _ _ _ = ⊥

-- What a command that asked a call is answered: what the plan replied, with the values or the refusal of the reply. The legs of a route are
-- those that the reply counts, from the memory of the call.
abbrev pub answer_of : Reply → List ℕ → Result Answer Rejection
answer_of (reply.Amend (Ok revision)) memory = Ok (answer.Amend revision)
answer_of (reply.Amend (Err why)) memory = Err (Refused (refusal.Amend why))
answer_of (reply.Route (Ok found)) memory = Ok (answer.Route found.regret (record { items = take found.legs memory }))
answer_of (reply.Route (Err why)) memory = Err (Refused (refusal.Route why))
answer_of (reply.Regret (Ok seconds)) memory = Ok (answer.Regret seconds)
answer_of (reply.Regret (Err why)) memory = Err (Refused (refusal.Regret why))
answer_of (reply.Floor (Ok seconds)) memory = Ok (answer.Floor seconds)
answer_of (reply.Floor (Err why)) memory = Err (Refused (refusal.Floor why))
answer_of (reply.Quickest (Ok total)) memory = Ok (answer.Quickest total)
answer_of (reply.Quickest (Err why)) memory = Err (Refused (refusal.Best why))
answer_of (reply.Level (Ok level)) memory = Ok (answer.Level level)
answer_of (reply.Level (Err why)) memory = Err (Refused (refusal.Best why))
answer_of (reply.Status status) memory = Ok (answer.Status status)
