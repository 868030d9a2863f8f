use Rattle.std.proofs.Common.{◌≡◌, length}
use Rattle.chart.specs.Limits.{max_legs}
use Rattle.search.specs.Snapshots.{snapshot_legs}
use Rattle.floor.specs.internal.FloorChoice.{FlagsUnshut}
use Rattle.floor.proofs.floor_choice.unshut_flags.Given as goal

abbrev pub invariant-loop-k : goal.invariant-loop-k
invariant-loop-k l = record { whole : length l.flags ≡ max_legs; told : FlagsUnshut (snapshot_legs l.snapshot) l.walked l.flags l.k-counter }
