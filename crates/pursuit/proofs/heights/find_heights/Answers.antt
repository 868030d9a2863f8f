use Rattle.std.proofs.Common.{rules}
use Rattle.chart.specs.Limits.{max_fixes}
use Rattle.search.specs.Snapshots.{snapshot_fixes}
use Rattle.search.specs.laws.SnapshotLaws.{snapshot_is_chart}
use Rattle.pursuit.specs.Answers.{query_on}
use Rattle.pursuit.proofs.RisingHeights.{flat_of_paths, found_rise}
use Rattle.pursuit.proofs.heights.find_heights.Goals as goal

pub loop-ends-init : goal.loop-ends-init
loop-ends-init c = flat_of_paths (query_on c.args.snapshot.now c.args.ends) max_fixes

pub returns : goal.returns
returns c =
    let s = c.args.snapshot.now in
    found_rise (query_on s c.args.ends) (snapshot_fixes s) (snapshot_is_chart s) c.lift.new.heights (c.lift.ensures.of_paths c.loop-ends.invariant) (c.lift.ensures.none_asks (search rules))
