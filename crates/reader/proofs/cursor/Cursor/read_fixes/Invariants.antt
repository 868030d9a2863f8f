use Rattle.std.proofs.Common.{◌≡◌, length}
use Rattle.chart_format.specs.Checks.{body, legs_in}
use Rattle.reader.specs.internal.ReadingStates.{AfterNames}
use Rattle.reader.proofs.cursor.Cursor.read_fixes.Given as goal

abbrev pub invariant-loop : goal.invariant-loop
invariant-loop l = record {
  after_names : AfterNames l.file l.self.place l.fixes (legs_in (body l.file)) l.starts.items;
  count : length l.starts.items ≡ l.counter;
}
