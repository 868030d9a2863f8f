-- The limits of charts and legs, by name. src/limits.rt has the same numbers for the code.
use Rattle.std.specs.Prelude.{ℕ, ◌-◌}

-- a chart has from 2 to 200 fixes
abbrev pub min_fixes : ℕ
min_fixes = 2

abbrev pub max_fixes : ℕ
max_fixes = 200

-- and up to 1,000 legs
abbrev pub max_legs : ℕ
max_legs = 1000

-- a leg takes at most 100,000 seconds
abbrev pub max_seconds : ℕ
max_seconds = 100000

-- and its top level is at most 600, in hundreds of feet
abbrev pub max_level : ℕ
max_level = 600

-- a lattice has from 1 to 10 rows and from 2 to 20 columns
abbrev pub max_rows : ℕ
max_rows = 10

abbrev pub max_columns : ℕ
max_columns = 20

-- and a step from each column but the last to the next
abbrev pub max_steps : ℕ
max_steps = max_columns - 1
