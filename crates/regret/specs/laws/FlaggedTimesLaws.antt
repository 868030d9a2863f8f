-- The proof that the choice of times by flags lies within the limits of every leg: the choice itself cites it.
use Rattle.std.specs.Prelude.{◌≤◌, Bool, true, false, List, slice_index_or}
use Rattle.std.proofs.Common.{arith}
use Rattle.chart.specs.declared.leg.Leg.{Leg}
use Rattle.chart.specs.Kinds.{IsBounded}
use Rattle.regret.specs.FlaggedTimes.{time_by, flagged_times}

time_within : (b : Bool) (l : Leg) → (l.low ≤ time_by b l) × (time_by b l ≤ l.high)
time_within true l = (l.ordered, omega arith)
time_within false l = (omega arith, l.ordered)

pub flagged_bounded : (flags : List Bool) → IsBounded (flagged_times flags)
flagged_bounded flags k l = time_within (slice_index_or flags k false) l
