-- The proof that a snapshot keeps the limits of charts: the snapshot cites it where it is made a chart.
use Rattle.chart.specs.Legs.{IsChart}
use Rattle.search.specs.declared.snapshot.Snapshot.{Snapshot}
use Rattle.search.specs.Snapshots.{snapshot_fixes, snapshot_legs}

pub snapshot_is_chart : (s : Snapshot) → IsChart (snapshot_fixes s) (snapshot_legs s)
unfolding snapshot_legs
snapshot_is_chart s = s.is_chart
