-- What the floor call answers.
use Rattle.std.specs.Prelude.{◌≡◌, ℕ, ◌⊎◌, List, [], ◌∷◌, Result, codes}
use Rattle.chart.specs.Outcomes.{Outcome, values, refused, outcome_by}
use Rattle.chart.specs.Regret.{Query}
use Rattle.chart.specs.Floors.{LeavesSource, IsFloor, NoRouteExtends}
use Rattle.regret.specs.declared.refusals.RegretRefusal.TheVariants.{NotARoute}
use Rattle.regret.specs.Answers.{regret_words}
use Rattle.floor.specs.declared.refusals.FloorRefusal.{FloorRefusal}
use Rattle.floor.specs.declared.refusals.FloorRefusal.TheVariants.{NotAChain, NoRoute}

-- the number of each refusal
abbrev pub floor_number : FloorRefusal → ℕ
floor_number NotAChain = 14
floor_number NoRoute = 25

-- what each says in words
abbrev pub floor_words : FloorRefusal → List ℕ
floor_words NotAChain = regret_words NotARoute
floor_words NoRoute = codes "no route, or none that begins so"

-- what a result says: the seconds, or the number
abbrev pub floor_outcome : Result ℕ FloorRefusal → Outcome
floor_outcome result = outcome_by (λ x. x ∷ []) floor_number result

-- the floor of a chain; 14 where the list is no chain; or 25 where it is one, and no route begins with it
abbrev pub IsFloorOutcome : Query → List ℕ → Outcome → Type 0
IsFloorOutcome t ks (values (x ∷ [])) = LeavesSource t ks × IsFloor t ks x
IsFloorOutcome t ks (refused n) =
    ((n ≡ 14) × (LeavesSource t ks → ⊥)) ⊎ ((n ≡ 25) × LeavesSource t ks × NoRouteExtends t ks)
IsFloorOutcome t ks _ = ⊥
