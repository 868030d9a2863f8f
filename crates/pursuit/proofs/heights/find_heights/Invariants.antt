use Rattle.pursuit.specs.Answers.{query_on}
use Rattle.pursuit.specs.internal.Heights.{AreOfPaths, heights_left}
use Rattle.pursuit.proofs.heights.find_heights.Given as goal

abbrev pub invariant-loop-ends : goal.invariant-loop-ends
invariant-loop-ends l = AreOfPaths (query_on l.snapshot l.ends) l.heights

abbrev pub decreases-loop-ends : goal.decreases-loop-ends
decreases-loop-ends l = heights_left l.heights
