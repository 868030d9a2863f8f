use Rattle.search.specs.Snapshots.{snapshot_legs}
use Rattle.floor.proofs.AvoidingTotals.{best_onward}
use Rattle.floor.proofs.onward.least_onward.Goals as goal

pub returns : goal.returns
returns c =
    best_onward (snapshot_legs c.args.snapshot.now) c.args.used.now c.args.ends.from c.args.ends.to c.if-ends.false c.in_ok-best_on.field-0 c.in_ok-best_on.ensures
