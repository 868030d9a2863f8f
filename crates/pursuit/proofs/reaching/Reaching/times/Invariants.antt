use Rattle.pursuit.specs.internal.Margins.{AreTimesOf}
use Rattle.pursuit.proofs.reaching.Reaching.times.Given as goal

abbrev pub invariant-loop-u : goal.invariant-loop-u
invariant-loop-u l = AreTimesOf l.self l.times
