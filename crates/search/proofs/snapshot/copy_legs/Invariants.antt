use Rattle.std.proofs.Common.{◌≡◌, length, take}
use Rattle.search.specs.internal.Index.{first_legs}
use Rattle.search.proofs.snapshot.copy_legs.Given as goal

abbrev pub invariant-loop-k : goal.invariant-loop-k
invariant-loop-k g l = (length l.legs ≡ length (g.C.Chart.legs l.chart)) × (first_legs l.k l.legs ≡ take l.k (g.C.Chart.legs l.chart))
