-- The limits of plans, by name. src/limits.rt has the same numbers for the code.
use Rattle.std.specs.Prelude.{ℕ}

-- at most 64 legs of a plan stand amended
abbrev pub max_amended : ℕ
max_amended = 64

-- a plan ends its amendments at revision 999
abbrev pub last_revision : ℕ
last_revision = 999
