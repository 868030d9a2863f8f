-- Which bytes are the file of a chart.
use Rattle.std.specs.Prelude.{◌≡◌, ℕ, ◌+◌, ◌/◌, ◌%◌, ◌<◌, ◌≤◌, ◌⊎◌, List, [], ◌∷◌, ◌++◌, length, take, ◌≢◌, slice_index, slice_index_or}
use Rattle.std.specs.List.{flat_map}
use Rattle.chart.specs.declared.row.Row.{Row}
use Rattle.chart.specs.declared.row.Standing.TheVariants.{Open}
use Rattle.chart.specs.Limits.{max_fixes}
use Rattle.chart.specs.Rows.{HasValidCounts, AreValidRows, row_at}
use Rattle.chart_format.specs.declared.record.RecordKind.{RecordKind}
use Rattle.chart_format.specs.declared.record.RecordKind.TheVariants.{Chart, Fix, Leg, End}

-- the name of a fix, in bytes
abbrev pub Name : Type 0
Name = List ℕ

-- How many bytes the parts of a file have. Each record begins with a mark of two; the end record has no others.
abbrev pub mark_length : ℕ
mark_length = 2

-- the body of a chart's record, and that of a leg's
abbrev pub chart_body_length : ℕ
chart_body_length = 3

abbrev pub leg_body_length : ℕ
leg_body_length = 12

-- these two records with their marks
abbrev pub chart_record_length : ℕ
chart_record_length = 5

abbrev pub leg_record_length : ℕ
leg_record_length = 14

-- where in its record the name of a fix begins: after the mark and the byte that says its length
abbrev pub name_offset : ℕ
name_offset = 3

-- a name has from 2 to 5 bytes
abbrev pub min_name : ℕ
min_name = 2

abbrev pub max_name : ℕ
max_name = 5

-- the two bytes that a record opens with: CH, FX, LG and EN
abbrev pub mark : RecordKind → List ℕ
mark Chart = 0x43 ∷ 0x48 ∷ []
mark Fix = 0x46 ∷ 0x58 ∷ []
mark Leg = 0x4C ∷ 0x47 ∷ []
mark End = 0x45 ∷ 0x4E ∷ []

-- a number in two bytes and in four, the high byte first
abbrev pub two_bytes : ℕ → List ℕ
two_bytes x = x / 256 ∷ x % 256 ∷ []

abbrev pub four_bytes : ℕ → List ℕ
four_bytes x = x / 16777216 ∷ (x / 65536) % 256 ∷ (x / 256) % 256 ∷ x % 256 ∷ []

-- the bytes of each record: a chart's n in one byte and m in two
abbrev pub chart_bytes : ℕ → ℕ → List ℕ
chart_bytes n m = mark Chart ++ n ∷ two_bytes m

-- a name's length in one byte, and its bytes
abbrev pub fix_bytes : Name → List ℕ
fix_bytes name = mark Fix ++ length name ∷ name

-- a leg's two fixes in one byte each, its low and high in four, its top in two
abbrev pub leg_bytes : Row → List ℕ
leg_bytes r = mark Leg ++ r.from ∷ r.to ∷ four_bytes r.low ++ four_bytes r.high ++ two_bytes r.top

abbrev pub end_bytes : List ℕ
end_bytes = mark End

-- a file up to the names and legs given: the record of a chart with n fixes and m legs, then theirs
unfoldable pub file_prefix : (n m : ℕ) → List Name → List Row → List ℕ
file_prefix n m names legs = chart_bytes n m ++ flat_map fix_bytes names ++ flat_map leg_bytes legs

-- A to Z and 0 to 9
abbrev pub IsNameByte : ℕ → Type 0
IsNameByte b = ((0x41 ≤ b) × (b ≤ 0x5A)) ⊎ ((0x30 ≤ b) × (b ≤ 0x39))

-- a name that a fix may have
pub record IsName (name : Name) : Type 0 where
  pub least : min_name ≤ length name
  pub most : length name ≤ max_name
  pub bytes : (i : ℕ) → i < length name → IsNameByte (slice_index name i)

-- the name of the fix i
abbrev pub name_at : List Name → ℕ → Name
name_at names i = slice_index_or names i []

-- each of these is a name that a fix may have
abbrev pub AreNames : List Name → Type 0
AreNames names = (j : ℕ) → j < length names → IsName (name_at names j)

-- no two of these names are equal
abbrev pub AreDistinct : List Name → Type 0
AreDistinct names = (i j : ℕ) → i < j → j < length names → name_at names i ≢ name_at names j

-- fixes of a chart may have these names: they are no more than a chart has fixes, each is a name, and no two are equal
pub record AreFixNames (names : List Name) : Type 0 where
  pub few : length names ≤ max_fixes
  pub valid : AreNames names
  pub distinct : AreDistinct names

-- the name is none of these
abbrev pub IsUnused : List Name → Name → Type 0
IsUnused names name = (i : ℕ) → i < length names → name_at names i ≢ name

-- a chart of n fixes and m legs may begin with these names and legs
pub record IsChartPrefix (n m : ℕ) (names : List Name) (legs : List Row) : Type 0 where
  pub counts_valid : HasValidCounts n m
  pub names_fit : length names ≤ n
  pub legs_fit : length legs ≤ m
  pub names_valid : AreNames names
  pub names_distinct : AreDistinct names
  pub rows_valid : AreValidRows n legs (length legs)
  pub legs_open : (k : ℕ) → k < length legs → (row_at legs k).standing ≡ Open

-- the file is that of the chart which has these names, one for each of its fixes, and these legs
pub record Means (file : List ℕ) (names : List Name) (legs : List Row) : Type 0 where
  pub valid : IsChartPrefix (length names) (length legs) names legs
  pub bytes : file ≡ file_prefix (length names) (length legs) names legs ++ end_bytes

-- the place of the name of the fix i: before it stand the chart's record, the records of the names before it, and the mark and
-- the length in its own
unfoldable pub name_place : List Name → ℕ → ℕ
name_place names i = chart_record_length + length (flat_map fix_bytes (take i names)) + name_offset
