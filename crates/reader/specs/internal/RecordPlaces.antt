-- Names and legs by the places where their records stand in a file.
use Rattle.std.specs.Prelude.{◌≡◌, ℕ, zero, suc, ◌+◌, ◌*◌, ◌<◌, ◌≤◌, List, [], ◌∷◌, ◌++◌, length, drop, slice_index}
use Rattle.chart.specs.declared.row.Row.{Row}
use Rattle.chart_format.specs.Format.{name_place, name_offset, leg_record_length}
use Rattle.chart_format.specs.Checks.{byte, body, leg_in}
use Rattle.reader.specs.Files.{names_at}

-- the body of a fix's record is complete after its mark at the place p
abbrev pub HasFixBody : List ℕ → ℕ → Type 0
HasFixBody file p =
    (p ≤ length file) × (1 ≤ length (body (drop p file))) ×
    (1 + byte (body (drop p file)) 0 ≤ length (body (drop p file)))

-- and at each of these places
abbrev pub HaveFixBodies : List ℕ → List ℕ → Type 0
HaveFixBodies file starts = (i : ℕ) → i < length starts → HasFixBody file (slice_index starts i)

-- the legs of the k records from the place p on
abbrev pub legs_at : List ℕ → ℕ → ℕ → List Row
legs_at file p zero = []
legs_at file p (suc k) = legs_at file p k ++ leg_in (body (drop (p + leg_record_length * k) file)) ∷ []

-- each of these places is that of the record of the name with its number
abbrev pub IsNameIndex : List ℕ → List ℕ → Type 0
IsNameIndex file starts = (i : ℕ) → i < length starts → slice_index starts i + name_offset ≡ name_place (names_at file starts) i

-- the first `count` places hold the legs whose records stand in the file from the place p on; the others hold what they held
abbrev pub IsFilled : List ℕ → ℕ → ℕ → List Row → List Row → Type 0
IsFilled file p count was is = is ≡ legs_at file p count ++ drop count was
