-- A run of one call: its reply is one to that call.
use Rattle.std.proofs.Common.{rules, ◌≡◌, ℕ, List, [], ◌∷◌, length, take, refl, subst, arith, slice_index_or}
use Rattle.std.specs.Prelude.{Result, Ok, Err, MatchResult, is_ok, true}
use Rattle.std.proofs.lemmas.List.{take_all}
use Rattle.chart.specs.declared.leg.Leg.{Leg}
use Rattle.plan.specs.declared.filed.Filed.{Filed}
use Rattle.plan.specs.Ledgers.{Ledger}
use Rattle.runs.specs.declared.call.Call.{Call}
use Rattle.runs.specs.declared.reply.Reply.{Reply}
use Rattle.runs.specs.Histories.{ledger_after_calls, call_places}
use Rattle.runs.specs.RepliesTo.{IsReplyTo}
use Rattle.runs.specs.Law.{IsLawfulRun}

module _ {C : Type 0} (fixes : C → ℕ) (legs : C → List Leg) (c : C) (l : Ledger) (call : Call) (replies : List Reply) (memory memory' : List ℕ) (plan' : Filed C) where
  pub only_reply : (replies' : List Reply) (d : Reply) → IsLawfulRun fixes legs c l (call ∷ []) replies replies' memory memory' plan' → length memory ≡ call_places call → IsReplyTo (fixes c) l call (slice_index_or replies' 0 d) memory memory'
  unfolding ledger_after_calls
  only_reply [] d law room = absurd (omega (arith, law.fits.enough_replies, law.replied.as_many))
  only_reply (r ∷ rs) d law room =
      subst (λ m. IsReplyTo (fixes c) l call r m memory') (take_all (call_places call) memory (omega (arith, room)))
      (subst (λ m. IsReplyTo (fixes c) l call r (take (call_places call) memory) m) (take_all (call_places call) memory' (omega (arith, room, law.replied.as_much)))
      (law.replied.is_reply 0 call r refl refl))

  -- so it is where a run is not refused
  pub one_call_replied : {T E : Type 0} (Q : E → Type 0) (result : Result T E) (replies' : List Reply) (d : Reply) → MatchResult result (λ _. IsLawfulRun fixes legs c l (call ∷ []) replies replies' memory memory' plan') Q → is_ok result ≡ true → length memory ≡ call_places call → IsReplyTo (fixes c) l call (slice_index_or replies' 0 d) memory memory'
  one_call_replied Q (Ok x) replies' d law ok room = only_reply replies' d law room
  one_call_replied Q (Err e) replies' d law ok room = search rules
