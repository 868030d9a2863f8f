use Rattle.std.proofs.Common.{get_or, take, arith}
use Rattle.search.specs.Snapshots.{snapshot_legs}
use Rattle.search.specs.laws.SnapshotLaws.{snapshot_is_chart}
use Rattle.search.proofs.LongerWalks.{walk_stuck}
use Rattle.search.proofs.WalkedChains.{along_start, along_again, high_small, step_is_small_leg}
use Rattle.search.proofs.walking.walk.Goals as goal

pub loop-k-init : goal.loop-k-init
loop-k-init c =
    let s = c.args.snapshot.now in
    let at = c.at-walked.ensures in
    along_start (snapshot_legs s) c.args.from c.at-walked.result (omega (arith, (snapshot_is_chart s).most)) at.from at.end at.high at.used at.flown

pub returns-in_err-leg : goal.returns-in_err-leg
returns-in_err-leg c =
    let w = c.loop-k.walked in
    rw c.from_residual.ensures (λ known. walk_stuck (snapshot_legs c.args.snapshot.now) c.args.from c.args.list.now c.loop-k.k-index w.end w.used c.loop-k.invariant.walk c.loop-k-test.true c.in_err-leg.ensures)

pub extend-requires : goal.extend-requires
extend-requires c =
    let s = c.args.snapshot.now in
    let w = c.loop-k.walked in
    let st = c.in_ok-leg.ensures in
    let known = step_is_small_leg (snapshot_legs s) (snapshot_is_chart s) w.end w.used (get_or c.args.list.now c.loop-k.k-index 0) c.in_ok-leg.leg st.0 st.1 in
    (known.to_small, known.number_small)

pub overflow_add-walked : goal.overflow_add-walked
overflow_add-walked c =
    let s = c.args.snapshot.now in
    let small = high_small (snapshot_legs s) (snapshot_is_chart s) c.args.from (take c.loop-k.k-index c.args.list.now) c.loop-k.walked (omega arith) c.loop-k.invariant in
    omega (arith, c.in_ok-leg.leg.bounded)

pub loop-k-preserved : goal.loop-k-preserved
loop-k-preserved c =
    let s = c.args.snapshot.now in
    let flown = c.extend.ensures in
    along_again (snapshot_legs s) (snapshot_is_chart s) c.args.from c.args.list.now c.loop-k.k-index c.loop-k.walked c.loop-k.invariant c.loop-k-test.true c.in_ok-leg.leg c.in_ok-leg.ensures c.extend.new.self flown.from flown.end flown.high flown.used flown.flown
