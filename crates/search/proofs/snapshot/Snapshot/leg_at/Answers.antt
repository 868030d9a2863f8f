use Rattle.std.proofs.Common.{arith}
use Rattle.search.proofs.LegsLeaving.{snapshot_length, snapshot_at}
use Rattle.search.proofs.snapshot.Snapshot.leg_at.Goals as goal

pub listed : goal.listed
listed c = let s = c.args.self.now in omega (arith, snapshot_length s, s.filled, s.whole)

pub bounds-self-k : goal.bounds-self-k
bounds-self-k c = let s = c.args.self.now in omega (arith, snapshot_length s, s.filled)

pub returns : goal.returns
returns c = let s = c.args.self.now in snapshot_at s c.args.k _ (omega (arith, snapshot_length s))
