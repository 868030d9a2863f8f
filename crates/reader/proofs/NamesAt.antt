-- The names at the places of their records, one by one.
use Rattle.std.proofs.Common.{◌≡◌, ℕ, zero, suc, ◌+◌, ◌<◌, List, [], ◌∷◌, ◌++◌, length, get_or, take, drop, refl, ap, ◌∙◌, arith}
use Rattle.std.proofs.lemmas.List.{drop-drop}
use Rattle.std.proofs.lemmas.Grind.{common_steps}
use Rattle.chart.specs.declared.row.Row.{Row}
use Rattle.chart_format.specs.Format.{Name, Means, AreFixNames, name_at, name_offset}
use Rattle.chart_format.specs.Checks.{byte, body, name_in}
use Rattle.reader.specs.Files.{names_at}

pub names_length : (file ps : List ℕ) → length (names_at file ps) ≡ length ps
names_length file [] = refl
names_length file (p ∷ ps) = let e = names_length file ps in omega arith

pub names_push : (file ps : List ℕ) (p : ℕ) → names_at file (ps ++ p ∷ []) ≡ names_at file ps ++ name_in (body (drop p file)) ∷ []
names_push file [] p = refl
names_push file (q ∷ ps) p = ap (λ x. name_in (body (drop q file)) ∷ x) (names_push file ps p)

pub name_nth : (file ps : List ℕ) (i : ℕ) → i < length ps → name_at (names_at file ps) i ≡ name_in (body (drop (get_or ps i 0) file))
name_nth file [] i h = absurd (omega arith)
name_nth file (p ∷ ps) zero h = refl
name_nth file (p ∷ ps) (suc i) h = name_nth file ps i (omega arith)

-- a front of a list is as much of it as it has items
front_by_length : (k : ℕ) (xs : List ℕ) → take k xs ≡ take (length (take k xs)) xs
front_by_length k xs = grind (arith, common_steps)

-- a name is the part of the file after its record's mark and its length
pub name_part : (file : List ℕ) (p : ℕ) → name_in (body (drop p file)) ≡ take (length (name_in (body (drop p file)))) (drop (p + name_offset) file)
name_part file p =
    front_by_length (byte (body (drop p file)) 0) (drop 1 (body (drop p file)))
    ∙ ap (take (length (name_in (body (drop p file))))) (ap (drop 1) (drop-drop 2 p file) ∙ drop-drop 1 (p + 2) file ∙ ap (λ k. drop k file) (omega arith))

-- the names of a chart's file are good
pub names_of_chart : {file : List ℕ} {names : List Name} {legs : List Row} → Means file names legs → AreFixNames names
names_of_chart m = record { few = m.valid.counts_valid.most; valid = m.valid.names_valid; distinct = m.valid.names_distinct }
