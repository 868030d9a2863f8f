use Rattle.std.proofs.Common.{◌≡◌, [], ◌∷◌, ◌++◌, arith, rules}
use Rattle.chart.specs.Grid.{step_at}
use Rattle.protocol.specs.declared.parsing.ParseError.TheVariants.{Malformed}
use Rattle.protocol.proofs.Parts.{passed_on, steps_more}
use Rattle.protocol.proofs.parsing.parse_steps.Goals as goal

pub returns-in_err-step : goal.returns-in_err-step
returns-in_err-step c =
    passed_on _ _ Malformed c.from_residual.result c.from_residual.ensures.1 c.in_err-step.ensures
    (λ steps says. let many = says.0 in (step_at steps.items c.loop-k.k, says.1 c.loop-k.k (omega arith)))

pub loop-k-preserved : goal.loop-k-preserved
loop-k-preserved c =
    let pushed : c.push.new.self.items ≡ c.loop-k.steps.items ++ c.in_ok-step.step ∷ [] = search rules in
    rw pushed (steps_more c.args.words.now c.loop-k.k c.loop-k.steps.items c.in_ok-step.step c.loop-k.invariant c.in_ok-step.ensures)

pub returns : goal.returns
returns c = let many = c.loop-k.invariant.0 in (omega arith, λ k below. c.loop-k.invariant.1 k (omega arith))
