use Rattle.std.proofs.lemmas.Result.{err_from_is_err_and}
use Rattle.console.specs.Sessions.{session_of}
use Rattle.console.proofs.NothingChanged.{plan_not_granted}
use Rattle.console.proofs.session.Session.run.Goals as goal

pub returns-in_err-plan_command-in-Plan-clause-not_granted : goal.returns-in_err-plan_command-in-Plan-clause-not_granted
returns-in_err-plan_command-in-Plan-clause-not_granted c =
    let p = err_from_is_err_and c.from_residual-in_err-plan_command-in-Plan.result c.from_residual-in_err-plan_command-in-Plan.ensures.1 in
    rw (p.1) (plan_not_granted (session_of c.args.self.now) c.in-Plan.plan c.in-Plan.command _ (session_of c.plan_command.new.self) c.in_err-plan_command-in-Plan.ensures)
