-- Where the reader stands between two records.
use Rattle.std.specs.Prelude.{◌≡◌, ℕ, ◌+◌, ◌*◌, ◌≤◌, List, [], length, drop}
use Rattle.chart.specs.Limits.{max_fixes}
use Rattle.chart_format.specs.declared.faults.ChartFault.{ChartFault}
use Rattle.chart_format.specs.Format.{Name, Means, leg_record_length}
use Rattle.chart_format.specs.Reports.{chart_report, Fails}
use Rattle.chart_format.specs.Checks.{Check}
use Rattle.chart_format.specs.Faults.{HasPrefix, IsFaultOf}
use Rattle.reader.specs.declared.cursor.Cursor.{Cursor}
use Rattle.reader.specs.Files.{names_at}
use Rattle.reader.specs.internal.RecordPlaces.{HaveFixBodies, legs_at, IsNameIndex}

-- the bytes of the file from the cursor on
abbrev pub rest_of : List ℕ → Cursor → List ℕ
rest_of file c = drop c.place file

-- the cursor stands in the file or at its end
abbrev pub IsInside : List ℕ → Cursor → Type 0
IsInside file c = c.place ≤ length file

-- the first of these checks that fails is the fault e at the place where the cursor was, and is again
pub record Refuses (checks : List Check) (e : ChartFault) (was is : ℕ) : Type 0 where
  pub fails : Fails checks was (chart_report e)
  pub again : is ≡ was

-- the cursor stands at p, after the names at these places, of a chart with n fixes and m legs
pub record AfterNames (file : List ℕ) (p n m : ℕ) (starts : List ℕ) : Type 0 where
  pub prefix : HasPrefix file p n m (names_at file starts) [] (drop p file)
  pub inside : p ≤ length file
  pub bodies : HaveFixBodies file starts
  pub indexed : IsNameIndex file starts

-- the cursor stands at p, after all the names and k of the legs, which begin at the place base
pub record AfterLegs (file : List ℕ) (p n m : ℕ) (names : List Name) (base k : ℕ) : Type 0 where
  pub prefix : HasPrefix file p n m names (legs_at file base k) (drop p file)
  pub read_to : p ≡ base + leg_record_length * k
  pub whole : length names ≡ n
  pub upto : k ≤ m

-- wherever there is room for m legs the file has the fault e, and the cursor stands at its place
pub record FaultAt (file : List ℕ) (m : ℕ) (e : ChartFault) (place : ℕ) : Type 0 where
  pub fault : (room : ℕ) → m ≤ room → IsFaultOf file room (chart_report e)
  pub there : place ≡ (chart_report e).place

-- whatever names stand before the place base, where the legs begin, the file has the fault e
abbrev pub FaultAmongLegs : (file : List ℕ) (n m base : ℕ) → ChartFault → ℕ → Type 0
FaultAmongLegs file n m base e place =
    (names : List Name) → AfterLegs file base n m names base 0 → FaultAt file m e place

-- from the place base on, where the legs begin, the cursor has come to p, after k of them, whatever names stand before
pub record LegsReadTo (file : List ℕ) (p n m base k : ℕ) : Type 0 where
  pub inside : p ≤ length file
  pub read_to : p ≡ base + leg_record_length * k
  pub after_legs : (names : List Name) → AfterLegs file base n m names base 0 → AfterLegs file p n m names base k

-- from the place base on stand m legs and the end record, and the file ends there
pub record IsWholeFile (file : List ℕ) (n m base place : ℕ) : Type 0 where
  pub means : (names : List Name) → AfterLegs file base n m names base 0 → Means file names (legs_at file base m)
  pub within : base + leg_record_length * m ≤ length file
  pub end : place ≡ length file

-- the file is a chart's, with the names at these places, one for each of its n fixes, and its m legs from the place base on
pub record IsCheckedFile (file : List ℕ) (room : ℕ) (starts : List ℕ) (n m base : ℕ) : Type 0 where
  pub means : Means file (names_at file starts) (legs_at file base m)
  pub most : n ≤ max_fixes
  pub whole : length starts ≡ n
  pub bodies : HaveFixBodies file starts
  pub indexed : IsNameIndex file starts
  pub within : base + leg_record_length * m ≤ length file
  pub fits : m ≤ room
