-- The chart of a file that is accepted, and the names in it.
use Rattle.std.proofs.Common.{◌≡◌, ℕ, zero, suc, ◌<◌, List, [], ◌∷◌, take, length, slice_index, inl, inr, sym, ap, ◌∙◌, arith}
use Rattle.std.specs.Str.{IsUtf8, IsAscii}
use Rattle.std.proofs.lemmas.List.{take_at}
use Rattle.std.proofs.lemmas.Str.{IsUtf8-from_ascii}
use Rattle.chart.specs.declared.row.Row.{Row}
use Rattle.chart_format.specs.Format.{Name, IsNameByte, AreFixNames, name_at}
use Rattle.reader.specs.declared.file_index.Counts.{Counts}
use Rattle.reader.specs.Readings.{Accepts}

-- the first places of memory, as many as there are legs
pub rows_of_file : (file : List ℕ) (names : List Name) (counts : Counts) (was is : List Row) → (a : Accepts file names counts was is) → take counts.legs is ≡ a.chart.legs
rows_of_file file names counts was is a = ap (take counts.legs) a.filled ∙ take_at a.chart.legs _ counts.legs (sym a.chart.count)

-- bytes that names have are ASCII, so names are text
name_byte_is_ascii : (b : ℕ) → IsNameByte b → b < 128
name_byte_is_ascii b (inl letter) = omega (arith, letter.1)
name_byte_is_ascii b (inr digit) = omega (arith, digit.1)

name_bytes_are_ascii : (bs : List ℕ) → ((i : ℕ) → i < length bs → IsNameByte (slice_index bs i)) → IsAscii bs
name_bytes_are_ascii [] h i = omega arith
name_bytes_are_ascii (b ∷ bs) h zero = name_byte_is_ascii b (h 0 (omega arith))
name_bytes_are_ascii (b ∷ bs) h (suc i) = name_bytes_are_ascii bs (λ j lt. h (suc j) (omega (arith, lt))) i

pub name_is_text : (names : List Name) (k : ℕ) → AreFixNames names → k < length names → IsUtf8 (name_at names k)
name_is_text names k good there = IsUtf8-from_ascii (name_at names k) (name_bytes_are_ascii (name_at names k) (good.valid k there).bytes)
