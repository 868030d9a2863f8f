use Rattle.std.proofs.Common.{arith}
use Rattle.protocol.proofs.Parts.{malformed_part, times_of_change}
use Rattle.protocol.proofs.parsing.parse_change.Goals as goal

pub returns-in_err-parse_times-in-times : goal.returns-in_err-parse_times-in-times
returns-in_err-parse_times-in-times c =
    malformed_part _ _ _ c.from_residual.result c.from_residual.ensures.1 c.in_err-parse_times-in-times.ensures
    (λ change says. times_of_change c.args.words.now change (omega arith) says)
