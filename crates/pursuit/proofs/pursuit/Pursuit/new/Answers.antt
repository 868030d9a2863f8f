use Rattle.std.proofs.Common.{sym, arith}
use Rattle.pursuit.proofs.ReadLegs.{margin_past_route}
use Rattle.pursuit.proofs.pursuit.Pursuit.new.Goals as goal

pub returns : goal.returns
returns c a b = sym (margin_past_route 0 _ a b (omega arith))
