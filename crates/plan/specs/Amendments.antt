-- What an amendment makes of a leg.
use Rattle.std.specs.Prelude.{Bool, true, false, ⊤}
use Rattle.chart.specs.declared.row.Row.{Row}
use Rattle.chart.specs.declared.row.Standing.TheVariants.{Open, Closed}
use Rattle.chart.specs.declared.leg.Leg.{Leg}
use Rattle.chart.specs.Grid.{IsValidInterval}
use Rattle.chart.specs.Rows.{row_of_leg, leg_of}
use Rattle.plan.specs.declared.amendment.Change.{Change}
use Rattle.plan.specs.declared.amendment.Change.TheVariants.{Close, Times, Restore}

-- The numbers of a leg after a change, where `own` has those of the leg as the chart gives it. To close a leg leaves its times
-- alone, new times open it, and no change alters the top level.
abbrev pub changed_row : (own row : Row) → Change → Row
changed_row own row Close = record row { standing = Closed }
changed_row own row (Times times) = record row { low = times.low; high = times.high; standing = Open }
changed_row own row Restore = own

-- the leg after a change, where `own` is the chart's own leg
unfoldable pub changed_leg : (own leg : Leg) → Change → Leg
changed_leg own leg change = leg_of (changed_row (row_of_leg own) (row_of_leg leg) change)

-- the times that a change gives, if any, are within their limits
abbrev pub ChangeHasValidTimes : Change → Type 0
ChangeHasValidTimes Close = ⊤
ChangeHasValidTimes (Times times) = IsValidInterval times
ChangeHasValidTimes Restore = ⊤

-- whether a change gives the chart's own leg back
abbrev pub restores : Change → Bool
restores Close = false
restores (Times times) = false
restores Restore = true
