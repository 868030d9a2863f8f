-- The legs of a chart by their numbers, and the limits that every chart keeps.
use Rattle.std.specs.Prelude.{ℕ, ◌<◌, ◌≤◌, List, length, Option, slice_index_or}
use Rattle.std.proofs.Common.{arith}
use Rattle.std.specs.List.{slice_get}
use Rattle.chart.specs.declared.leg.Leg.{Leg}
use Rattle.chart.specs.declared.row.Standing.TheVariants.{Closed}
use Rattle.chart.specs.Limits.{min_fixes, max_fixes, max_legs}

-- the leg of the number k, or none where k is the number of legs or more
unfoldable pub leg_get : List Leg → ℕ → Option Leg
leg_get legs k = slice_get legs k

-- a closed leg, to stand where a list of legs has none
unfoldable pub no_leg : Leg
no_leg = record {
  from = 0;
  to = 1;
  low = 0;
  high = 0;
  top = 0;
  standing = Closed;
  apart = λ e. omega arith;
  ordered = omega arith;
  bounded = omega arith;
  level = omega arith;
}

-- the leg of the number k, for k below the number of legs
unfoldable pub leg_at : List Leg → ℕ → Leg
leg_at legs k = slice_index_or legs k no_leg

-- the limits of a chart that means `fixes` and `legs`
pub record IsChart (fixes : ℕ) (legs : List Leg) : Type 0 where
  pub least : min_fixes ≤ fixes
  pub most : fixes ≤ max_fixes
  pub few : length legs ≤ max_legs
  pub leaves : (k : ℕ) → k < length legs → (leg_at legs k).from < fixes
  pub enters : (k : ℕ) → k < length legs → (leg_at legs k).to < fixes
