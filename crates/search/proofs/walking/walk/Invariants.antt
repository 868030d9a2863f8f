use Rattle.std.proofs.Common.{take}
use Rattle.search.specs.Snapshots.{snapshot_legs}
use Rattle.search.specs.Walks.{IsWalkedAlong}
use Rattle.search.proofs.walking.walk.Given as goal

abbrev pub invariant-loop-k : goal.invariant-loop-k
invariant-loop-k l = IsWalkedAlong (snapshot_legs l.snapshot) l.from (take l.k-index l.list) l.walked
