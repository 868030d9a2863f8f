use Rattle.std.proofs.Common.{◌∙◌, rules}
use Rattle.search.specs.Snapshots.{snapshot_legs}
use Rattle.search.proofs.AdjacencyIndexes.{front_is_first_legs, row_fits_index}
use Rattle.search.proofs.snapshot.Snapshot.of.Goals as goal

pub index_legs-requires : goal.index_legs-requires
index_legs-requires g c = record { fits_index = row_fits_index (g.C.Chart.is_chart c.args.chart.now) c.copy_legs.ensures; none = search rules }

pub returns-clause-same_legs : goal.returns-clause-same_legs
unfolding snapshot_legs
returns-clause-same_legs g c = front_is_first_legs _ _ _ c.m-count.ensures (c.index_legs.ensures.same ∙ c.copy_legs.ensures)
