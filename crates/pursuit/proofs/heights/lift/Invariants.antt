use Rattle.search.specs.Snapshots.{snapshot_fixes}
use Rattle.pursuit.specs.Answers.{query_on}
use Rattle.pursuit.specs.internal.Heights.{IsLiftByLegs}
use Rattle.pursuit.proofs.heights.lift.Given as goal

abbrev pub invariant-loop-k : goal.invariant-loop-k
invariant-loop-k l = IsLiftByLegs (query_on l.snapshot l.ends) (snapshot_fixes l.snapshot) l.k l.initial.heights l.heights l.lifted
