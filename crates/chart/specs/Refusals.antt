-- The number of each refusal, and what it says in words.
use Rattle.std.specs.Prelude.{ℕ, List, codes}
use Rattle.chart.specs.declared.refusals.RowRefusal.{RowRefusal}
use Rattle.chart.specs.declared.refusals.RowRefusal.TheVariants.{BadTimes, BadFixes}
use Rattle.chart.specs.declared.refusals.TableRefusal.{TableRefusal}
use Rattle.chart.specs.declared.refusals.TableRefusal.TheVariants.{BadCounts, BadRow}
use Rattle.chart.specs.declared.refusals.LatticeRefusal.{LatticeRefusal}
use Rattle.chart.specs.declared.refusals.LatticeRefusal.TheVariants.{BadGrid, BadTimes as BadGridTimes}

abbrev pub row_number : RowRefusal → ℕ
row_number BadTimes = 8
row_number BadFixes = 7

abbrev pub table_number : TableRefusal → ℕ
table_number BadCounts = 4
table_number (BadRow e) = row_number e

abbrev pub lattice_number : LatticeRefusal → ℕ
lattice_number BadGrid = 16
lattice_number BadGridTimes = 8

abbrev pub row_words : RowRefusal → List ℕ
row_words BadTimes = codes "low above high, or a time or level outside its limits"
row_words BadFixes = codes "a leg's fix is not on the chart, or both are the same"

abbrev pub table_words : TableRefusal → List ℕ
table_words BadCounts = codes "number of fixes or legs outside its limits"
table_words (BadRow e) = row_words e

abbrev pub lattice_words : LatticeRefusal → List ℕ
lattice_words BadGrid = codes "rows or columns outside their limits, or not one step fewer than columns"
lattice_words BadGridTimes = row_words BadTimes
