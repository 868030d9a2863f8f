use Rattle.search.specs.Snapshots.{snapshot_legs}
use Rattle.pursuit.specs.Pursuits.{RouteKeeps}
use Rattle.pursuit.specs.internal.Margins.{table_margin, table_query}
use Rattle.pursuit.proofs.LegLoops.{HoldsOfPassedLegs}
use Rattle.pursuit.proofs.margin_table.MarginTable.route_moves.Given as goal

abbrev pub invariant-loop-e : goal.invariant-loop-e
invariant-loop-e l = HoldsOfPassedLegs (snapshot_legs l.self.snapshot.now) l.a (RouteKeeps (table_query l.self) (table_margin l.self) l.b l.least) l.e-iterator
