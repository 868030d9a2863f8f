use Rattle.std.proofs.Common.{◌≡◌, drop, sym, ap, ◌∙◌, inr, arith}
use Rattle.std.proofs.lemmas.List.{drop-drop}
use Rattle.chart_format.specs.Checks.{body}
use Rattle.reader.proofs.FaultPassedOn.{fault_passed_on}
use Rattle.reader.proofs.guard.Guard.read_record.Goals as goal

pub returns-in_err-read_body-clause-reads : goal.returns-in_err-read_body-clause-reads
returns-in_err-read_body-clause-reads c =
    let file = c.args.file.now in
    let mark = rw c.requires at c.in_ok-read_mark.ensures.reads in
    let after : drop c.read_mark.new.self.cursor.now.place file ≡ body (drop c.args.self.now.start file) = ap (λ p. drop p file) mark.1 ∙ sym (drop-drop 2 c.args.self.now.start file) in
    let fails = rw after at c.in_err-read_body.ensures.reads in
    fault_passed_on c.from_residual-in_err-read_body.result _ _ c.from_residual-in_err-read_body.ensures.1
    (inr (mark.0.0, inr (mark.0.1.0, inr (mark.0.1.1.0, fails.0))), fails.1 ∙ c.in_ok-read_mark.ensures.same_start)

pub returns-clause-reads : goal.returns-clause-reads
returns-clause-reads c =
    let file = c.args.file.now in
    let mark = rw c.requires at c.in_ok-read_mark.ensures.reads in
    let after : drop c.read_mark.new.self.cursor.now.place file ≡ body (drop c.args.self.now.start file) = ap (λ p. drop p file) mark.1 ∙ sym (drop-drop 2 c.args.self.now.start file) in
    let says = rw after at c.in_ok-read_body.ensures.reads in
    ((mark.0.0, (mark.0.1.0, (mark.0.1.1.0, says.0))), says.1, omega (arith, says.2, mark.1))
