use Rattle.std.proofs.Common.{refl}
use Rattle.protocol.proofs.parsing.parse_plan_command.Goals as goal

pub returns-in_ok-parse_numbers-in-Regret-default : goal.returns-in_ok-parse_numbers-in-Regret-default
returns-in_ok-parse_numbers-in-Regret-default c =
    rw c.in-Regret-default.is-0 (_, c.in_ok-parse_numbers-in-Regret-default.ensures, refl)

pub returns-in_ok-parse_numbers-in-Floor-default : goal.returns-in_ok-parse_numbers-in-Floor-default
returns-in_ok-parse_numbers-in-Floor-default c =
    rw c.in-Floor-default.is-0 (_, c.in_ok-parse_numbers-in-Floor-default.ensures, refl)
