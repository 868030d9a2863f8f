use Rattle.std.proofs.Common.{take}
use Rattle.plan.specs.Plans.{ledger_of}
use Rattle.runs.proofs.OneMoreCall.{IsRunSoFar}
use Rattle.runs.proofs.run.run.Given as goal

abbrev pub invariant-loop-i : goal.invariant-loop-i
invariant-loop-i g l = IsRunSoFar g.C.Chart.fixes g.C.Chart.legs l.fn.plan.chart (ledger_of g.C.Chart.legs l.fn.plan) (take l.i l.calls) l.fn.replies l.replies l.fn.memory l.memory l.used l.plan
