-- A chart of four fixes and five legs, and a small lattice, with the answers that were worked out by hand.
use Rattle.std.specs.Prelude.{◌≡◌, ℕ, List, [], ◌∷◌, map, length, slice_set, Some, ◌≤◌, ◌+◌}
use Rattle.chart.specs.declared.row.Row.{Row}
use Rattle.chart.specs.declared.row.Standing.{Standing}
use Rattle.chart.specs.declared.row.Standing.TheVariants.{Open, Closed}
use Rattle.chart.specs.declared.leg.Leg.{Leg}
use Rattle.chart.specs.declared.interval.Step.{Step}
use Rattle.chart.specs.Outcomes.{refused}
use Rattle.chart.specs.Rows.{leg_of, row_at}
use Rattle.chart.specs.Kinds.{level_rule, quickest_rule}
use Rattle.chart.specs.Best.{BestTotal}
use Rattle.chart.specs.Regret.{Query, query, IsRoute, HasRegret, IsLeastRegret}
use Rattle.chart.specs.Floors.{IsFloor}
use Rattle.least.specs.Answers.{IsRouteOutcome}
use Rattle.chart.specs.Grid.{grid_legs}

abbrev pub row : (from to low high top : ℕ) → Standing → Row
row from to low high top standing = record { from = from; to = to; low = low; high = high; top = top; standing = standing }

-- the rows of the chart
abbrev pub four_fix_rows : List Row
four_fix_rows =
    row 0 1 300 400 390 Open
    ∷ row 1 3 300 500 350 Open
    ∷ row 0 2 200 600 410 Open
    ∷ row 2 3 250 450 370 Open
    ∷ row 1 2 50 100 330 Open
    ∷ []

-- rows, with that of the number k closed
abbrev pub closed : List Row → ℕ → List Row
closed rows k = slice_set rows k (record (row_at rows k) { standing = Closed })

-- the legs that rows make
abbrev pub legs_of_rows : List Row → List Leg
legs_of_rows rows = map leg_of rows

-- on these legs, from the first fix to the last
abbrev pub from_first_to_last : List Row → Query
from_first_to_last rows = query (legs_of_rows rows) 0 3

-- from the first fix to the last: the best totals, the regret of each route, the route of least regret and some floors
pub record FourFixWorked (rows : List Row) : Type 0 where
  pub quickest : BestTotal quickest_rule (legs_of_rows rows) 0 3 (Some (record { seconds = 900; legs = 2 }))
  pub level : BestTotal level_rule (legs_of_rows rows) 0 3 (Some 370)
  pub regret_by_one : HasRegret (from_first_to_last rows) (0 ∷ 1 ∷ []) 450
  pub regret_by_one_and_two : HasRegret (from_first_to_last rows) (0 ∷ 4 ∷ 3 ∷ []) 300
  pub regret_by_two : HasRegret (from_first_to_last rows) (2 ∷ 3 ∷ []) 450
  pub route : IsLeastRegret (from_first_to_last rows) (0 ∷ 4 ∷ 3 ∷ []) 300
  pub floor_of_none : IsFloor (from_first_to_last rows) [] 0
  pub floor_of_leg_0 : IsFloor (from_first_to_last rows) (0 ∷ []) 250
  pub floor_of_leg_2 : IsFloor (from_first_to_last rows) (2 ∷ []) 250
  pub floor_of_legs_2_and_3 : IsFloor (from_first_to_last rows) (2 ∷ 3 ∷ []) 450

-- with leg 4 closed the two routes that are left have the same regret, and the one whose list comes first is the answer;
-- with legs 1 and 3 closed there is no route, and a route call with places enough is refused with 25
pub record FourFixClosed (rows : List Row) : Type 0 where
  pub without_leg_4 : IsLeastRegret (from_first_to_last (closed rows 4)) (0 ∷ 1 ∷ []) 450
  pub tie_without_leg_4 : HasRegret (from_first_to_last (closed rows 4)) (2 ∷ 3 ∷ []) 450
  pub without_legs_1_and_3 : (q : List ℕ) → IsRoute (from_first_to_last (closed (closed rows 1) 3)) q → ⊥
  pub refused_without_legs_1_and_3 : (memory : List ℕ) → 4 ≤ length memory + 1
      → IsRouteOutcome (from_first_to_last (closed (closed rows 1) 3)) 4 memory (refused 25) memory

-- the one step of 3 rows and 2 columns has 7 legs, of which leg 2 leads from fix 1 to fix 3
abbrev pub SmallLatticeWorked : Type 0
SmallLatticeWorked =
    (top : ℕ) (steps : List Step) →
    (length (grid_legs 3 2 top steps) ≡ 7) × ((row_at (grid_legs 3 2 top steps) 2).from ≡ 1) × ((row_at (grid_legs 3 2 top steps) 2).to ≡ 3)
