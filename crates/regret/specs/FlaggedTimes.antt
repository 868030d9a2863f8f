-- The choice of times in which the flagged legs take their high time, and all others their low.
use Rattle.std.specs.Prelude.{ℕ, Bool, false, cond, List, slice_index_or}
use Rattle.chart.specs.declared.leg.Leg.{Leg}
use Rattle.chart.specs.Legs.{leg_at}
use Rattle.chart.specs.Kinds.{Times}

-- the high time of a leg where b is set, else its low time
abbrev pub time_by : Bool → Leg → ℕ
time_by b l = cond b l.high l.low

-- the time of each leg: its high time where its number is flagged, else its low time
abbrev pub flagged_times : List Bool → Times
flagged_times flags k l = time_by (slice_index_or flags k false) l

-- the same times of a chart's legs, by their numbers
abbrev pub flagged_choice : List Leg → List Bool → ℕ → ℕ
flagged_choice legs flags k = flagged_times flags k (leg_at legs k)
