use Rattle.std.proofs.Common.{◌≡◌, ℕ, ◌+◌, List, [], ◌∷◌, ap, ◌∙◌, arith}
use Rattle.std.specs.Prelude.{Ok, Err, Result}
use Rattle.std.specs.List.{count_by}
use Rattle.chart.specs.declared.leg.Leg.{Leg}
use Rattle.plan.specs.declared.amendment.Amendment.{Amendment}
use Rattle.plan.specs.declared.refusals.AmendRefusal.{AmendRefusal}
use Rattle.plan.specs.Answers.{amend_outcome}
use Rattle.plan.specs.Ledgers.{Ledger, grounds, outcome_by_grounds, ledger_by, outcome_on, ledger_after}
use Rattle.plan.specs.Plans.{ledger_of}
use Rattle.runs.specs.declared.reply.Reply.TheVariants as reply
use Rattle.runs.specs.Law.{grants}
use Rattle.runs.proofs.run.execute.Goals as goal

-- the revision rises by the amendments that are granted
counted_by : (gs : List AmendRefusal) (own : List Leg) (l : Ledger) (a : Amendment) (r : Result ℕ AmendRefusal) → amend_outcome r ≡ outcome_by_grounds gs l.revision → (ledger_by gs own l a).revision ≡ l.revision + count_by grants (reply.Amend r ∷ [])
counted_by [] own l a (Ok x) e = omega arith
counted_by [] own l a (Err x) e = absurd cc
counted_by (g ∷ gs) own l a (Ok x) e = absurd cc
counted_by (g ∷ gs) own l a (Err x) e = omega arith

counts : (own : List Leg) (l l' : Ledger) (a : Amendment) (r : Result ℕ AmendRefusal) → amend_outcome r ≡ outcome_on l a → l' ≡ ledger_after own l a → l'.revision ≡ l.revision + count_by grants (reply.Amend r ∷ [])
unfolding outcome_on ledger_after
counts own l l' a r p q = ap (λ (x : Ledger). x.revision) q ∙ counted_by (grounds l a) own l a r p

pub returns-in-Amend-clause-counted : goal.returns-in-Amend-clause-counted
returns-in-Amend-clause-counted g c =
    let legs = g.C.Chart.legs in
    counts (legs c.args.plan.now.chart) (ledger_of legs c.args.plan.now) (ledger_of legs c.amend.new.self) c.in-Amend.amendment c.amend.result c.amend.ensures.answer c.amend.ensures.ledger
