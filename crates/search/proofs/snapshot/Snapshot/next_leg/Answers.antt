use Rattle.std.proofs.Common.{refl, arith}
use Rattle.search.proofs.LegsLeaving.{snapshot_length, snapshot_next}
use Rattle.search.proofs.snapshot.Snapshot.next_leg.Goals as goal

pub returns-then-k-self : goal.returns-then-k-self
returns-then-k-self c = let e = snapshot_length c.args.self.now in record { after = λ h. absurd (omega arith); past = λ _. refl }

pub returns : goal.returns
returns c = snapshot_next c.args.self.now c.args.k _ (omega arith)
