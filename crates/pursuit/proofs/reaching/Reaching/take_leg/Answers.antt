use Rattle.std.proofs.Common.{◌≡◌, ap, ◌∙◌, arith}
use Rattle.chart.specs.declared.leg.Leg.{Leg}
use Rattle.regret.specs.FlaggedTimes.{flagged_times}
use Rattle.pursuit.specs.Answers.{height_at, query_on}
use Rattle.pursuit.specs.internal.Margins.{choice_of}
use Rattle.pursuit.proofs.ReachedFixes.{all_taken}
use Rattle.pursuit.proofs.reaching.Reaching.take_leg.Goals as goal

pub returns-then-is_none_or : goal.returns-then-is_none_or
returns-then-is_none_or c =
    let r = c.args.self.now in
    let takes : c.time.result ≡ choice_of r c.args.k = c.time.ensures ∙ ap (λ (l : Leg). flagged_times r.flags.now c.args.k l) c.in-Some.ensures.0 in
    rw c.set_time.ensures (all_taken (query_on r.snapshot.now r.ends) (height_at r.heights.now) (choice_of r) r.below c.args.times.now c.requires c.args.k c.in-Some.leg c.in-Some.ensures.0 c.in-Some.ensures.1 (omega arith) c.in-Some-time_at.so_far c.in-Some-checked_add.time c.in-Some-time_at.ensures (omega (arith, c.in-Some-checked_add.ensures)))
