-- What each layer and each fault says in words.
use Rattle.std.specs.Prelude.{ℕ, List, codes}
use Rattle.chart.specs.declared.refusals.RowRefusal.TheVariants as row
use Rattle.chart.specs.declared.refusals.TableRefusal.TheVariants as table
use Rattle.chart.specs.Refusals.{row_words, table_words}
use Rattle.chart_format.specs.declared.faults.Layer.{Layer}
use Rattle.chart_format.specs.declared.faults.Layer.TheVariants as layer
use Rattle.chart_format.specs.declared.faults.BytesFault.{BytesFault}
use Rattle.chart_format.specs.declared.faults.BytesFault.TheVariants.{Short, Unknown}
use Rattle.chart_format.specs.declared.faults.RecordFault.{RecordFault}
use Rattle.chart_format.specs.declared.faults.RecordFault.TheVariants.{Bytes, BadCounts, BadName, BadTimes}
use Rattle.chart_format.specs.declared.faults.ChartFault.{ChartFault}
use Rattle.chart_format.specs.declared.faults.ChartFault.TheVariants.{Record, OutOfPlace, NameUsed, BadFixes, BytesAfter, NoRoom}

-- the name of a layer
abbrev pub layer_words : Layer → List ℕ
layer_words layer.Bytes = codes "bytes"
layer_words layer.Record = codes "record"
layer_words layer.Chart = codes "chart"

-- what is wrong with the bytes
abbrev pub bytes_words : BytesFault → List ℕ
bytes_words (Short _) = codes "the file ends before its end record is complete"
bytes_words (Unknown _) = codes "unknown mark"

-- what is wrong with a record; counts and times as the refusals of a table and of a row say it
abbrev pub record_words : RecordFault → List ℕ
record_words (Bytes b) = bytes_words b
record_words (BadCounts _) = table_words table.BadCounts
record_words (BadName _) = codes "bad name"
record_words (BadTimes _) = row_words row.BadTimes

-- what is wrong with the chart; the fixes of a leg as the refusal of a row says it
abbrev pub chart_words : ChartFault → List ℕ
chart_words (Record r) = record_words r
chart_words (OutOfPlace _) = codes "known mark out of its place"
chart_words (NameUsed _) = codes "name already used"
chart_words (BadFixes _) = row_words row.BadFixes
chart_words (BytesAfter _) = codes "bytes after the end record"
chart_words (NoRoom _) = codes "fewer places of leg memory than legs"
