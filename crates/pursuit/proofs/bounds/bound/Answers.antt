use Rattle.std.proofs.Common.{subst}
use Rattle.search.specs.Snapshots.{snapshot_legs}
use Rattle.regret.specs.FlaggedTimes.{flagged_choice as own_high}
use Rattle.pursuit.specs.Answers.{height_at, query_on}
use Rattle.pursuit.specs.internal.Margins.{AreReached}
use Rattle.pursuit.proofs.BelowRegret.{pursuit_bound_is_below_every_regret}
use Rattle.pursuit.proofs.LegLoops.{larger_is}
use Rattle.pursuit.proofs.BoundsAtFixes.{none_below, below_by_bound_at_fix, larger_below}
use Rattle.pursuit.proofs.bounds.bound.Goals as goal

pub returns-clause-below_every_regret : goal.returns-clause-below_every_regret
returns-clause-below_every_regret c = pursuit_bound_is_below_every_regret

pub loop-b-init : goal.loop-b-init
loop-b-init c = none_below (query_on c.args.snapshot.now c.args.ends) c.args.chain.now

pub loop-b-preserved : goal.loop-b-preserved
loop-b-preserved c =
    let t = query_on c.args.snapshot.now c.args.ends in
    let p = c.args.pursuit.now in
    let chain = c.args.chain.now in
    let reached = subst (λ h. AreReached t (height_at p.heights) (own_high (snapshot_legs c.args.snapshot.now) chain.flags.now) h c.times-times.result) c.height_of.ensures c.times-times.ensures in
    larger_below t chain c.loop-b.most c.bound_at.result c.max-most.result (larger_is _ _ _ c.max-most.ensures) c.loop-b.invariant
    (below_by_bound_at_fix t p c.requires chain c.times-times.result reached c.loop-b.b c.bound_at.result c.bound_at.ensures)
