-- So far the steps have what the words before this step's say.
use Rattle.protocol.specs.internal.Parses.{SaysFirstSteps}
use Rattle.protocol.proofs.parsing.parse_steps.Given as goal

abbrev pub invariant-loop-k : goal.invariant-loop-k
invariant-loop-k l = SaysFirstSteps l.words l.k l.steps.items
