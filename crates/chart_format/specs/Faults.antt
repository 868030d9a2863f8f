-- Which fault a file has that is no chart's.
use Rattle.std.specs.Prelude.{◌≡◌, ℕ, ◌+◌, ◌<◌, ◌≤◌, ◌⊎◌, List, [], ◌++◌, length}
use Rattle.chart.specs.declared.row.Row.{Row}
use Rattle.chart_format.specs.declared.faults.Layer.{Layer}
use Rattle.chart_format.specs.declared.faults.Layer.TheVariants as layer
use Rattle.chart_format.specs.declared.faults.Report.{Report}
use Rattle.chart_format.specs.Format.{Name, IsChartPrefix, Means, file_prefix, end_bytes, mark_length}
use Rattle.chart_format.specs.Checks.{IsFirstFailure, chart_checks, fix_checks, leg_checks, end_checks, after_checks}

-- the file begins with these names and legs of a chart of n fixes and m legs, which take p bytes; the rest follows
pub record HasPrefix (file : List ℕ) (p n m : ℕ) (names : List Name) (legs : List Row) (rest : List ℕ) : Type 0 where
  pub valid : IsChartPrefix n m names legs
  pub bytes : file ≡ file_prefix n m names legs ++ rest
  pub place : p ≡ length (file_prefix n m names legs)

-- The file has the fault x at the place p, where there is room for so many legs: all records before p are as
-- they should be, and of the checks of the record that is due at p, x is the first that fails.
pub data HasFault (file : List ℕ) (room x p : ℕ) : Type 0 where
  at_chart : p ≡ 0 → IsFirstFailure (chart_checks room file) x → HasFault file room x p
  at_fix : (n m : ℕ) (names : List Name) (rest : List ℕ) → HasPrefix file p n m names [] rest → m ≤ room →
      length names < n → IsFirstFailure (fix_checks names rest) x → HasFault file room x p
  at_leg : (n m : ℕ) (names : List Name) (legs : List Row) (rest : List ℕ) → HasPrefix file p n m names legs rest →
      m ≤ room → length names ≡ n → length legs < m → IsFirstFailure (leg_checks n rest) x → HasFault file room x p
  at_end : (n m : ℕ) (names : List Name) (legs : List Row) (rest : List ℕ) → HasPrefix file p n m names legs rest →
      m ≤ room → length names ≡ n → length legs ≡ m → IsFirstFailure (end_checks rest) x → HasFault file room x p
  after_end : (n m q : ℕ) (names : List Name) (legs : List Row) (rest : List ℕ) →
      HasPrefix file q n m names legs (end_bytes ++ rest) → m ≤ room →
      length names ≡ n → length legs ≡ m → p ≡ q + mark_length → IsFirstFailure (after_checks rest) x → HasFault file room x p

-- the layer that finds the fault x: 1 and 2 are found in the bytes, 4, 5 and 8 in a record, the others in the chart
abbrev pub Finds : Layer → ℕ → Type 0
Finds layer.Bytes x = (x ≡ 1) ⊎ (x ≡ 2)
Finds layer.Record x = (x ≡ 4) ⊎ ((x ≡ 5) ⊎ (x ≡ 8))
Finds layer.Chart x = (x ≡ 3) ⊎ ((x ≡ 6) ⊎ ((x ≡ 7) ⊎ ((x ≡ 9) ⊎ (x ≡ 10))))

-- what this tells is the fault of the file
pub record IsFaultOf (file : List ℕ) (room : ℕ) (r : Report) : Type 0 where
  pub has_fault : HasFault file room r.number r.place
  pub in_layer : Finds r.layer r.number

-- Every file has one verdict at most: a file means one chart at most, so that different charts or names never have the same file;
-- with room for its legs the file of a chart has no fault; and a file has one fault at most.
pub record HasOneVerdict (file : List ℕ) (room : ℕ) : Type 0 where
  pub chart : (names names' : List Name) (legs legs' : List Row) → Means file names legs → Means file names' legs' →
      (names ≡ names') × (legs ≡ legs')
  pub either : (names : List Name) (legs : List Row) (r : Report) → Means file names legs → length legs ≤ room →
      IsFaultOf file room r → ⊥
  pub fault : (r s : Report) → IsFaultOf file room r → IsFaultOf file room s → r ≡ s
