-- The names in a file by the places of their records, and the chart that a file means.
use Rattle.std.specs.Prelude.{◌≡◌, ℕ, List, [], ◌∷◌, length, drop}
use Rattle.chart.specs.declared.row.Row.{Row}
use Rattle.chart_format.specs.Format.{Name, Means}
use Rattle.chart_format.specs.Checks.{body, name_in}
use Rattle.reader.specs.declared.file_index.Counts.{Counts}

-- the names whose records stand at the places given
abbrev pub names_at : List ℕ → List ℕ → List Name
names_at file [] = []
names_at file (p ∷ ps) = name_in (body (drop p file)) ∷ names_at file ps

-- the file means a chart with these names, and with as many fixes and legs as are counted
pub record IsFileOfChart (file : List ℕ) (names : List Name) (counts : Counts) : Type 0 where
  pub legs : List Row
  pub means : Means file names legs
  pub fixes : counts.fixes ≡ length names
  pub count : counts.legs ≡ length legs
