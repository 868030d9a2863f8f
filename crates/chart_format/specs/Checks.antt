-- The checks of each record, in their order.
use Rattle.std.specs.Prelude.{◌≡◌, ℕ, ◌+◌, ◌*◌, ◌<◌, ◌≤◌, ◌⊎◌, List, [], ◌∷◌, ◌++◌, length, take, drop, slice_index}
use Rattle.chart.specs.declared.row.Row.{Row}
use Rattle.chart.specs.declared.row.Standing.TheVariants.{Open}
use Rattle.chart.specs.Rows.{HasValidCounts, HasValidTimes, HasValidFixes}
use Rattle.chart_format.specs.declared.record.RecordKind.{RecordKind}
use Rattle.chart_format.specs.declared.record.RecordKind.TheVariants.{Chart, Fix, Leg, End}
use Rattle.chart_format.specs.Format.{Name, mark, IsName, IsUnused, mark_length, chart_body_length, leg_body_length}

infixl 20 ◌fails_unless◌
-- a check: the number of the fault, unless this holds
pub data Check : Type 1 where
  ◌fails_unless◌ : ℕ → Type 0 → Check

-- x is the number of the first check that fails
abbrev pub IsFirstFailure : List Check → ℕ → Type 0
IsFirstFailure [] x = ⊥
IsFirstFailure ((k fails_unless P) ∷ cs) x = ((P → ⊥) × (x ≡ k)) ⊎ (P × IsFirstFailure cs x)

-- every check holds
abbrev pub Pass : List Check → Type 0
Pass [] = Unit {0}
Pass ((k fails_unless P) ∷ cs) = P × Pass cs

abbrev pub byte : List ℕ → ℕ → ℕ
byte bytes i = slice_index bytes i

-- each of these numbers is a byte
abbrev pub AreBytes : List ℕ → Type 0
AreBytes xs = (i : ℕ) → byte xs i < 256

-- a number of several bytes, the high byte first
abbrev pub two_bytes_in : List ℕ → ℕ → ℕ
two_bytes_in bytes i = byte bytes i * 256 + byte bytes (i + 1)

abbrev pub four_bytes_in : List ℕ → ℕ → ℕ
four_bytes_in bytes i =
    byte bytes i * 16777216 + byte bytes (i + 1) * 65536 + byte bytes (i + 2) * 256 + byte bytes (i + 3)

-- the bytes from a record's mark on begin with the mark of a kind
abbrev pub HasMark : RecordKind → List ℕ → Type 0
HasMark kind rest = take mark_length rest ≡ mark kind

-- and its body comes after the mark
abbrev pub body : List ℕ → List ℕ
body rest = drop mark_length rest

-- what a body says: the numbers of fixes and of legs, a name, a leg
abbrev pub fixes_in : List ℕ → ℕ
fixes_in b = byte b 0

abbrev pub legs_in : List ℕ → ℕ
legs_in b = two_bytes_in b 1

abbrev pub name_in : List ℕ → Name
name_in b = take (byte b 0) (drop 1 b)

abbrev pub leg_in : List ℕ → Row
leg_in b = record {
  from = byte b 0;
  to = byte b 1;
  low = four_bytes_in b 2;
  high = four_bytes_in b 6;
  top = two_bytes_in b 10;
  standing = Open;
}

-- the mark is complete, and known
abbrev pub mark_checks : List ℕ → List Check
mark_checks rest =
    (1 fails_unless (mark_length ≤ length rest)) ∷
    (2 fails_unless ((kind : RecordKind) × HasMark kind rest)) ∷ []

-- and it is the one due
abbrev pub kind_checks : RecordKind → List ℕ → List Check
kind_checks kind rest = mark_checks rest ++ (3 fails_unless HasMark kind rest) ∷ []

-- the body is complete, and within its limits
abbrev pub chart_body_checks : List ℕ → List Check
chart_body_checks b =
    (1 fails_unless (chart_body_length ≤ length b)) ∷
    (4 fails_unless HasValidCounts (fixes_in b) (legs_in b)) ∷ []

-- a name's body is complete when its length is there and as many bytes as that says, even if the length is bad
abbrev pub fix_body_checks : List ℕ → List Check
fix_body_checks b =
    (1 fails_unless ((1 ≤ length b) × (1 + byte b 0 ≤ length b))) ∷
    (5 fails_unless IsName (name_in b)) ∷ []

abbrev pub leg_body_checks : List ℕ → List Check
leg_body_checks b =
    (1 fails_unless (leg_body_length ≤ length b)) ∷
    (8 fails_unless HasValidTimes (leg_in b)) ∷ []

abbrev pub body_checks : RecordKind → List ℕ → List Check
body_checks Chart b = chart_body_checks b
body_checks Fix b = fix_body_checks b
body_checks Leg b = leg_body_checks b
body_checks End b = []

-- all checks of a record of this kind that look at it alone
abbrev pub record_checks : RecordKind → List ℕ → List Check
record_checks kind rest = kind_checks kind rest ++ body_checks kind (body rest)

-- all checks of a record: where there is room for so many legs; after these names; among n fixes
abbrev pub chart_checks : ℕ → List ℕ → List Check
chart_checks room rest =
    kind_checks Chart rest ++ chart_body_checks (body rest) ++ (10 fails_unless (legs_in (body rest) ≤ room)) ∷ []

abbrev pub fix_checks : List Name → List ℕ → List Check
fix_checks names rest =
    kind_checks Fix rest ++ fix_body_checks (body rest) ++ (6 fails_unless IsUnused names (name_in (body rest))) ∷ []

abbrev pub leg_checks : ℕ → List ℕ → List Check
leg_checks n rest =
    kind_checks Leg rest ++ leg_body_checks (body rest) ++ (7 fails_unless HasValidFixes n (leg_in (body rest))) ∷ []

abbrev pub end_checks : List ℕ → List Check
end_checks rest = kind_checks End rest

-- nothing follows the end record
abbrev pub after_checks : List ℕ → List Check
after_checks rest = (9 fails_unless (length rest ≡ 0)) ∷ []
