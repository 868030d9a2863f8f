use Rattle.pursuit.specs.internal.Margins.{AreTimesOf}
use Rattle.pursuit.proofs.reaching.Reaching.take_legs.Given as goal

abbrev pub invariant-loop-k : goal.invariant-loop-k
invariant-loop-k l = AreTimesOf l.self l.times
