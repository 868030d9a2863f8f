-- What a table means: its number of fixes, and the rows of which it has made legs.
use Rattle.std.specs.Prelude.{List, map, take}
use Rattle.chart.specs.declared.row.Row.{Row}
use Rattle.chart.specs.declared.leg.Leg.{Leg}
use Rattle.chart.specs.declared.table.Table.{Table}
use Rattle.chart.specs.Rows.{leg_of}

-- the rows of which a table has made legs
abbrev pub table_rows : Table → List Row
table_rows t = take t.count t.rows.now

-- the legs that a table means
unfoldable pub table_legs : Table → List Leg
table_legs t = map leg_of (table_rows t)
