use Rattle.std.proofs.Common.{arith}
use Rattle.protocol.specs.Lines.{dash}
use Rattle.protocol.proofs.Cut.{cut}
use Rattle.protocol.proofs.Parts.{interval_cut}
use Rattle.protocol.proofs.parsing.parse_interval.Goals as goal

pub returns : goal.returns
returns c =
    let parts = cut dash (omega arith) _ _ c.split_once.ensures.cases _ c.in_ok-low.ensures.ok_part in
    interval_cut c.args.word.now _ _ parts c.parse_times.result c.parse_times.ensures
