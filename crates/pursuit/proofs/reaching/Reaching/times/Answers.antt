use Rattle.chart.specs.Limits.{max_fixes}
use Rattle.pursuit.specs.Answers.{height_at, query_on}
use Rattle.pursuit.specs.internal.Margins.{choice_of}
use Rattle.pursuit.proofs.ReachedFixes.{all_start}
use Rattle.pursuit.proofs.reaching.Reaching.times.Goals as goal

pub loop-u-init : goal.loop-u-init
loop-u-init c =
    let r = c.args.self.now in
    rw c.set_time.ensures (all_start (query_on r.snapshot.now r.ends) (height_at r.heights.now) (choice_of r) r.below max_fixes)
