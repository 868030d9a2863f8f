-- A chart with the two fixes AA and BB and no legs: what its file means, and the faults of two files
-- that differ from it a little.
use Rattle.std.specs.Prelude.{ℕ, List, [], ◌∷◌, take}
use Rattle.chart_format.specs.declared.faults.Layer.TheVariants as layer
use Rattle.chart_format.specs.Format.{Name, Means}
use Rattle.chart_format.specs.Faults.{IsFaultOf}

abbrev pub aa : Name
aa = 0x41 ∷ 0x41 ∷ []

abbrev pub bb : Name
bb = 0x42 ∷ 0x42 ∷ []

-- the 17 bytes of the file: CH with two fixes and no legs, FX AA, FX BB and EN
abbrev pub two_fix_file : List ℕ
two_fix_file =
    0x43 ∷ 0x48 ∷ 0x02 ∷ 0x00 ∷ 0x00 ∷
    0x46 ∷ 0x58 ∷ 0x02 ∷ 0x41 ∷ 0x41 ∷
    0x46 ∷ 0x58 ∷ 0x02 ∷ 0x42 ∷ 0x42 ∷
    0x45 ∷ 0x4E ∷ []

-- without its last byte
abbrev pub cut_file : List ℕ
cut_file = take 16 two_fix_file

-- with AA where BB stood
abbrev pub repeated_file : List ℕ
repeated_file =
    0x43 ∷ 0x48 ∷ 0x02 ∷ 0x00 ∷ 0x00 ∷
    0x46 ∷ 0x58 ∷ 0x02 ∷ 0x41 ∷ 0x41 ∷
    0x46 ∷ 0x58 ∷ 0x02 ∷ 0x41 ∷ 0x41 ∷
    0x45 ∷ 0x4E ∷ []

-- the file is that chart's; the cut one is short at its end record, and the other uses a name again at its second fix
pub record TwoFixFiles : Type 0 where
  pub accepted : Means two_fix_file (aa ∷ bb ∷ []) []
  pub short : (room : ℕ) → IsFaultOf cut_file room (record { number = 1; layer = layer.Bytes; place = 15 })
  pub twice : (room : ℕ) → IsFaultOf repeated_file room (record { number = 6; layer = layer.Chart; place = 10 })
