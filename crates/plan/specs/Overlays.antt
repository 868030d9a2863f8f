-- The legs of a plan: the chart's, with the amended ones in their places.
use Rattle.std.specs.Prelude.{ℕ, List, [], ◌∷◌, map, slice_set}
use Rattle.chart.specs.declared.leg.Leg.{Leg}
use Rattle.chart.specs.Legs.{leg_at}
use Rattle.plan.specs.declared.amendment.AmendedLeg.{AmendedLeg}

-- a leg with the times and the standing of an amended one
unfoldable pub overlay_leg : Leg → AmendedLeg → Leg
overlay_leg leg amended = record {
  from = leg.from;
  to = leg.to;
  low = amended.times.low;
  high = amended.times.high;
  top = leg.top;
  standing = amended.standing;
  apart = leg.apart;
  ordered = amended.ordered;
  bounded = amended.bounded;
  level = leg.level;
}

-- a chart's legs with the amended ones in their places
unfoldable pub overlay : List Leg → List AmendedLeg → List Leg
overlay legs [] = legs
overlay legs (amended ∷ more) = slice_set (overlay legs more) amended.number (overlay_leg (leg_at legs amended.number) amended)

-- the numbers of amended legs
abbrev pub amended_numbers : List AmendedLeg → List ℕ
amended_numbers amended = map (λ (a : AmendedLeg). a.number) amended
