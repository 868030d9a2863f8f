use Rattle.std.proofs.Common.{refl}
use Rattle.chart.specs.Regret.{query}
use Rattle.search.specs.Snapshots.{snapshot_legs}
use Rattle.least.proofs.OptimalRoute.{ready_first, least_of}
use Rattle.least.proofs.routes.find_with.Goals as goal

pub explore-requires : goal.explore-requires
explore-requires c = ready_first _ c.requires.leaves c.new.ensures refl refl refl refl c.requires.pursued

pub returns : goal.returns
returns c = least_of (query (snapshot_legs c.args.snapshot.now) c.args.ends.from c.args.ends.to) c.explore.new.self.incumbent (rw c.new.ensures at c.explore.ensures.searched)
