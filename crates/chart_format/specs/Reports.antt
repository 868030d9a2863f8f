-- What each fault tells: its number, its layer and its place.
use Rattle.std.specs.Prelude.{◌≡◌, ℕ, List}
use Rattle.chart_format.specs.declared.faults.Report.{Report}
use Rattle.chart_format.specs.declared.faults.Layer.TheVariants as layer
use Rattle.chart_format.specs.declared.faults.BytesFault.{BytesFault}
use Rattle.chart_format.specs.declared.faults.BytesFault.TheVariants.{Short, Unknown}
use Rattle.chart_format.specs.declared.faults.RecordFault.{RecordFault}
use Rattle.chart_format.specs.declared.faults.RecordFault.TheVariants.{Bytes, BadCounts, BadName, BadTimes}
use Rattle.chart_format.specs.declared.faults.ChartFault.{ChartFault}
use Rattle.chart_format.specs.declared.faults.ChartFault.TheVariants.{Record, OutOfPlace, NameUsed, BadFixes, BytesAfter, NoRoom}
use Rattle.chart_format.specs.Checks.{Check, IsFirstFailure}

abbrev pub bytes_report : BytesFault → Report
bytes_report (Short p) = record { number = 1; layer = layer.Bytes; place = p }
bytes_report (Unknown p) = record { number = 2; layer = layer.Bytes; place = p }

-- a bytes fault inside a record fault tells what it told
abbrev pub record_report : RecordFault → Report
record_report (Bytes b) = bytes_report b
record_report (BadCounts p) = record { number = 4; layer = layer.Record; place = p }
record_report (BadName p) = record { number = 5; layer = layer.Record; place = p }
record_report (BadTimes p) = record { number = 8; layer = layer.Record; place = p }

-- and so does a record fault inside a chart fault
abbrev pub chart_report : ChartFault → Report
chart_report (Record r) = record_report r
chart_report (OutOfPlace p) = record { number = 3; layer = layer.Chart; place = p }
chart_report (NameUsed p) = record { number = 6; layer = layer.Chart; place = p }
chart_report (BadFixes p) = record { number = 7; layer = layer.Chart; place = p }
chart_report (BytesAfter p) = record { number = 9; layer = layer.Chart; place = p }
chart_report (NoRoom p) = record { number = 10; layer = layer.Chart; place = p }

-- the first of these checks that fails is the fault that is told, at the place p
abbrev pub Fails : List Check → ℕ → Report → Type 0
Fails checks p r = IsFirstFailure checks r.number × (r.place ≡ p)
