use Rattle.std.proofs.Common.{Ok, ap, ◌∙◌, arith}
use Rattle.std.proofs.lemmas.Result.{err_from_is_err_and}
use Rattle.plan.specs.Plans.{ledger_of}
use Rattle.plan.specs.Answers.{amend_outcome}
use Rattle.plan.proofs.AmendAnswers.{refused_answer, refused_ledger, granted_answer, granted_plan}
use Rattle.plan.proofs.filed.Filed.amend.Goals as goal

pub returns-in_err-leg-clause-answer : goal.returns-in_err-leg-clause-answer
returns-in_err-leg-clause-answer g c =
    let p = err_from_is_err_and c.from_residual.result c.from_residual.ensures.1 in
    rw (p.1, p.2) (refused_answer (ledger_of g.C.Chart.legs c.args.self.now) c.args.amendment c.in_err-leg.field-0.0 c.in_err-leg.ensures.checked)

pub returns-in_err-leg-clause-ledger : goal.returns-in_err-leg-clause-ledger
returns-in_err-leg-clause-ledger g c = refused_ledger (ledger_of g.C.Chart.legs c.args.self.now) c.args.amendment (g.C.Chart.legs c.args.self.now.chart) c.in_err-leg.field-0.0 c.in_err-leg.ensures.checked

pub returns-clause-answer : goal.returns-clause-answer
returns-clause-answer g c =
    ap (λ x. amend_outcome (Ok x)) (omega (arith, c.set_amended.ensures.revision))
    ∙ granted_answer (ledger_of g.C.Chart.legs c.args.self.now) c.args.amendment c.in_ok-leg.ensures.checked.free

pub returns-clause-ledger : goal.returns-clause-ledger
returns-clause-ledger g c =
    granted_plan g.C.Chart.legs c.args.self.now c.set_amended.new.self c.args.amendment c.of-entry.result _
    c.in_ok-leg.ensures.checked.free (rw c.in_ok-leg.ensures.checked.is at c.of-entry.ensures) c.set_amended.ensures (omega arith)
