use Rattle.std.proofs.Common.{Some, sym, ap, ◌∙◌, arith}
use Rattle.chart.proofs.LegsByNumber.{leg_get_there, leg_get_past}
use Rattle.search.specs.Snapshots.{snapshot_legs}
use Rattle.search.proofs.LegsLeaving.{snapshot_length}
use Rattle.search.proofs.snapshot.SnapshotChart.leg.Goals as goal

pub leg_at-requires : goal.leg_at-requires
leg_at-requires c = omega (arith, snapshot_length c.args.self.now)

pub returns-then-k-self : goal.returns-then-k-self
returns-then-k-self c =
    let s = c.args.self.now in
    ap (λ l. Some l) c.leg_at.ensures ∙ sym (leg_get_there (snapshot_legs s) c.args.k (omega (arith, snapshot_length s)))

pub returns : goal.returns
returns c = let s = c.args.self.now in sym (leg_get_past (snapshot_legs s) c.args.k (omega (arith, snapshot_length s)))
