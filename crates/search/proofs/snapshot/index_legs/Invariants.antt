use Rattle.std.proofs.Common.{◌≡◌}
use Rattle.search.specs.internal.Index.{indexed_legs, next_legs, FitsIndex, IsAdjacencyIndex}
use Rattle.search.proofs.snapshot.index_legs.Given as goal

abbrev pub invariant-loop-k : goal.invariant-loop-k
invariant-loop-k l =
    (indexed_legs l.legs ≡ indexed_legs l.initial.legs)
    × FitsIndex l.legs
    × IsAdjacencyIndex (indexed_legs l.legs) l.k l.first (next_legs l.legs)
