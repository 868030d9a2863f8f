use Rattle.std.proofs.Common.{sym, arith}
use Rattle.protocol.proofs.Parts.{passed_on, all_after, steps_moved}
use Rattle.protocol.proofs.parsing.parse_lattice.Goals as goal

pub returns-in_err-parse_steps : goal.returns-in_err-parse_steps
returns-in_err-parse_steps c =
    passed_on _ _ _ c.from_residual-in_err-parse_steps.result c.from_residual-in_err-parse_steps.ensures.1
    c.in_err-parse_steps.ensures
    (λ request says. (request.steps, steps_moved _ _ (sym (all_after 3 _ c.args.words.now (omega arith))) _ says.4))

pub returns : goal.returns
returns c = (
  omega arith,
  c.in_ok-parse_u16.ensures,
  c.in_ok-parse_u16-2.ensures,
  c.in_ok-parse_u16-3.ensures,
  steps_moved _ _ (all_after 3 _ c.args.words.now (omega arith)) _ c.in_ok-parse_steps.ensures,
)
