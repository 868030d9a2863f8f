use Rattle.std.proofs.Common.{ℕ, ◌<◌}
use Rattle.chart.specs.Legs.{leg_at}
use Rattle.search.specs.Snapshots.{snapshot_legs}
use Rattle.pursuit.specs.Rivals.{IsRivalLeg}
use Rattle.pursuit.specs.Answers.{height_at, query_on}
use Rattle.pursuit.proofs.heights.every_leg_rises.Given as goal

abbrev pub invariant-loop-k : goal.invariant-loop-k
invariant-loop-k l = (j : ℕ) → j < l.k → IsRivalLeg (query_on l.snapshot l.ends) j → height_at l.heights (leg_at (snapshot_legs l.snapshot) j).from < height_at l.heights (leg_at (snapshot_legs l.snapshot) j).to
