use Rattle.search.specs.Snapshots.{snapshot_legs}
use Rattle.pursuit.specs.Pursuits.{HasCountermove}
use Rattle.pursuit.specs.internal.Margins.{table_margin, table_query}
use Rattle.pursuit.proofs.LegLoops.{HoldsOfPassedLegs}
use Rattle.pursuit.proofs.margin_table.MarginTable.both_move.Given as goal

abbrev pub invariant-loop-e : goal.invariant-loop-e
invariant-loop-e l = HoldsOfPassedLegs (snapshot_legs l.self.snapshot.now) l.a (HasCountermove (table_query l.self) (table_margin l.self) l.a l.least) l.e-iterator
