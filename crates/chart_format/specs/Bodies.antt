-- Where the body of a record stands, what it says, and how long it is.
use Rattle.std.specs.Prelude.{◌≡◌, ℕ, ◌+◌, List, length}
use Rattle.chart_format.specs.declared.input.Input.{Input}
use Rattle.chart_format.specs.declared.record.RecordKind.{RecordKind}
use Rattle.chart_format.specs.declared.record.RecordKind.TheVariants as kind
use Rattle.chart_format.specs.declared.record.Record.{Record}
use Rattle.chart_format.specs.declared.record.Record.TheVariants.{Chart, Fix, Leg, End}
use Rattle.chart_format.specs.Format.{chart_body_length, leg_body_length}
use Rattle.chart_format.specs.Checks.{body, fixes_in, legs_in, name_in, leg_in}

-- the bytes of b are those after the mark that the bytes of p begin with; both are told at the place of that mark
abbrev pub IsBody : Input → Input → Type 0
IsBody p b = (b.bytes.now ≡ body p.bytes.now) × (b.place ≡ p.place)

-- the record is of this kind, and has the counts, the name or the leg that the bytes b of its body say
abbrev pub Says : RecordKind → List ℕ → Record → Type 0
Says k b (Chart fixes legs) = (k ≡ kind.Chart) × (fixes ≡ fixes_in b) × (legs ≡ legs_in b)
Says k b (Fix name) = (k ≡ kind.Fix) × (name.now ≡ name_in b)
Says k b (Leg row) = (k ≡ kind.Leg) × (row ≡ leg_in b)
Says k b End = k ≡ kind.End

-- how many bytes the body has that says this: a name's has one more than the name, for its length
abbrev pub body_length : Record → ℕ
body_length (Chart _ _) = chart_body_length
body_length (Fix name) = 1 + length name.now
body_length (Leg _) = leg_body_length
body_length End = 0
