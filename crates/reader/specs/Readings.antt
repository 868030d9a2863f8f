-- What a reader and an index hold of a file that is accepted.
use Rattle.std.specs.Prelude.{◌≡◌, ℕ, ◌<◌, ◌≤◌, List, ◌++◌, length, take, drop, codes}
use Rattle.chart.specs.declared.row.Row.{Row}
use Rattle.chart_format.specs.Format.{Name, name_at, name_place}
use Rattle.reader.specs.declared.file_index.Counts.{Counts}
use Rattle.reader.specs.declared.file_index.FileIndex.{FileIndex}
use Rattle.reader.specs.declared.fix_name.FixName.{FixName}
use Rattle.reader.specs.declared.fix_name.NoSuchFix.{NoSuchFix}
use Rattle.reader.specs.declared.reader.Reader.{Reader}
use Rattle.reader.specs.Files.{names_at, IsFileOfChart}

-- the bytes of the file, and the place that reading has come to in it
abbrev pub file_of : Reader → List ℕ
file_of r = r.file.now

abbrev pub reading_place : Reader → ℕ
reading_place r = r.cursor.place

-- the names of the accepted file; none before
unfoldable pub names_of : Reader → List Name
names_of r = names_at (file_of r) r.starts.items

-- the reader has the names that it had, at the same places
abbrev pub HasSameNames : Reader → Reader → Type 0
HasSameNames was is = (names_of is ≡ names_of was) × (is.starts ≡ was.starts)

-- the file that an index has, its names, and how many fixes and legs its chart has
abbrev pub indexed_file : FileIndex → List ℕ
indexed_file i = i.file.items

unfoldable pub indexed_names : FileIndex → List Name
indexed_names i = names_at (indexed_file i) i.starts.items

abbrev pub indexed_counts : FileIndex → Counts
indexed_counts i = i.counts

-- the file means a chart with these names and counts: the first places of memory hold its legs, and later places what they held
pub record Accepts (file : List ℕ) (names : List Name) (counts : Counts) (was is : List Row) : Type 0 where
  pub chart : IsFileOfChart file names counts
  pub room : length chart.legs ≤ length was
  pub filled : is ≡ chart.legs ++ drop (length chart.legs) was

-- the name of the fix k of these, which is that part of the file itself, with its place
pub record IsNameOfFix (file : List ℕ) (names : List Name) (k : ℕ) (name : FixName) : Type 0 where
  pub there : k < length names
  pub text : name.text.now ≡ name_at names k
  pub place : name.place ≡ name_place names k
  pub part : name.text.now ≡ take (length name.text.now) (drop name.place file)

-- the number of the refusal of a name
abbrev pub name_number : NoSuchFix → ℕ
name_number _ = 11

-- and what it says in words
abbrev pub name_words : NoSuchFix → List ℕ
name_words _ = codes "no such fix"

-- the number that a name is refused with: no fix of these names has the number k
abbrev pub NameRefused : List Name → ℕ → ℕ → Type 0
NameRefused names k number = (number ≡ 11) × (length names ≤ k)
