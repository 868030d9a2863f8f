use Rattle.std.proofs.Common.{refl, ◌∙◌, not, arith, rules, length-set}
use Rattle.chart.specs.Legs.{leg_at}
use Rattle.search.specs.Snapshots.{snapshot_legs}
use Rattle.search.specs.laws.SnapshotLaws.{snapshot_is_chart}
use Rattle.chart.proofs.LegsByNumber.{leg_get_there}
use Rattle.floor.specs.internal.FloorChoice.{TellsShut}
use Rattle.floor.proofs.ShutLegs.{unshut_again}
use Rattle.floor.proofs.floor_choice.unshut_flags.Goals as goal

pub bounds-flags-k : goal.bounds-flags-k
bounds-flags-k c = omega (arith, (snapshot_is_chart c.args.snapshot.now).few)

pub loop-k-preserved : goal.loop-k-preserved
loop-k-preserved c =
    let s = c.args.snapshot.now in
    let k = c.loop-k.k-counter in
    let few = (snapshot_is_chart s).few in
    let there = leg_get_there (snapshot_legs s) k (omega arith) in
    let post = rw (c.leg.ensures, there) at c.is_some_and.ensures in
    let tells : TellsShut c.args.walked.now k (leg_at (snapshot_legs s) k) c.is_some_and.result = search rules in
    record {
      whole = length-set c.loop-k.flags k (not c.is_some_and.result) ∙ c.loop-k.invariant.whole;
      told = λ ks along. unshut_again (snapshot_legs s) ks c.loop-k.flags k c.is_some_and.result (omega (arith, c.loop-k.invariant.whole)) (c.loop-k.invariant.told ks along) (tells (snapshot_legs s) ks along refl);
    }
