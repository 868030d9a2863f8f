use Rattle.std.proofs.Common.{arith}
use Rattle.search.specs.Snapshots.{snapshot_fixes}
use Rattle.search.specs.laws.SnapshotLaws.{snapshot_is_chart}
use Rattle.pursuit.specs.Answers.{query_on}
use Rattle.pursuit.proofs.RisingHeights.{has_height, lifted_by}
use Rattle.pursuit.proofs.heights.lift_by.Goals as goal

pub bounds-heights-leg : goal.bounds-heights-leg
bounds-heights-leg c =
    let s = c.args.snapshot.now in
    has_height (query_on s c.args.ends) (snapshot_fixes s) (snapshot_is_chart s) c.args.k c.args.heights.now c.in-Some.leg c.in-Some.ensures.0 c.in-Some.ensures.1 c.requires

pub returns : goal.returns
returns c =
    let s = c.args.snapshot.now in
    lifted_by (query_on s c.args.ends) (snapshot_fixes s) (snapshot_is_chart s) c.args.k c.args.heights.now c.in-Some.leg c.in-Some.ensures.0 c.in-Some.ensures.1 c.requires c.height_of-from.result c.height_of-from.ensures (omega (arith, c.height_of.ensures, c.if-height_of-from.false)) (omega (arith, c.n.ensures, c.if-from-n.false))
