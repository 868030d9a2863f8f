use Rattle.search.specs.Snapshots.{snapshot_legs}
use Rattle.pursuit.specs.Pursuits.{RivalKeeps}
use Rattle.pursuit.specs.internal.Margins.{table_margin, table_query}
use Rattle.pursuit.proofs.LegLoops.{IsBestSoFar}
use Rattle.pursuit.proofs.margin_table.MarginTable.rival_moves.Given as goal

abbrev pub invariant-loop-f : goal.invariant-loop-f
invariant-loop-f l = IsBestSoFar (snapshot_legs l.self.snapshot.now) l.b (RivalKeeps (table_query l.self) (table_margin l.self) l.a) l.most l.f-iterator
