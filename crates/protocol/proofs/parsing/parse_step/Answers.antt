use Rattle.protocol.proofs.Parts.{malformed_part}
use Rattle.protocol.proofs.parsing.parse_step.Goals as goal

pub returns-in_err-parse_interval : goal.returns-in_err-parse_interval
returns-in_err-parse_interval c =
    malformed_part _ _ _ c.from_residual.result c.from_residual.ensures.1
    c.in_err-parse_interval.ensures (λ step says. (_, says.0))

pub returns-in_err-parse_interval-2 : goal.returns-in_err-parse_interval-2
returns-in_err-parse_interval-2 c =
    malformed_part _ _ _ c.from_residual-in_err-parse_interval-2.result c.from_residual-in_err-parse_interval-2.ensures.1
    c.in_err-parse_interval-2.ensures (λ step says. (_, says.1))

pub returns-in_err-parse_interval-3 : goal.returns-in_err-parse_interval-3
returns-in_err-parse_interval-3 c =
    malformed_part _ _ _ c.from_residual-in_err-parse_interval-3.result c.from_residual-in_err-parse_interval-3.ensures.1
    c.in_err-parse_interval-3.ensures (λ step says. (_, says.2))
