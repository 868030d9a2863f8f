use Rattle.pursuit.specs.Answers.{IsBelowChainRegrets, query_on}
use Rattle.pursuit.proofs.bounds.bound.Given as goal

abbrev pub invariant-loop-b : goal.invariant-loop-b
invariant-loop-b l = IsBelowChainRegrets (query_on l.snapshot l.fn.ends) l.chain l.most
