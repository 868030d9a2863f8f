use Rattle.search.specs.Snapshots.{snapshot_legs}
use Rattle.floor.proofs.ShutLegs.{best_is_floor_choice_time}
use Rattle.floor.proofs.floor_choice.floor_choice_time.Goals as goal

pub returns : goal.returns
returns c ks along =
    best_is_floor_choice_time (snapshot_legs c.args.snapshot.now) c.args.ends.from c.args.ends.to ks c.unshut_flags-flags.result (c.unshut_flags-flags.ensures ks (rw (← along.from) at along)) c.least_time.result c.least_time.ensures
