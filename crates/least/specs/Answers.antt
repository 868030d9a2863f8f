-- What the call for the route of least regret answers.
use Rattle.std.specs.Prelude.{◌≡◌, ℕ, ◌+◌, ◌<◌, ◌≤◌, ◌⊎◌, List, [], ◌∷◌, length, take, drop, Result, codes}
use Rattle.chart.specs.Outcomes.{Outcome, values, refused, outcome_by}
use Rattle.chart.specs.Regret.{Query, IsRoute, IsLeastRegret}
use Rattle.floor.specs.declared.refusals.FloorRefusal.TheVariants.{NoRoute as FloorNoRoute}
use Rattle.floor.specs.Answers.{floor_words}
use Rattle.least.specs.declared.routes.FoundRoute.{FoundRoute}
use Rattle.least.specs.declared.refusals.RouteRefusal.{RouteRefusal}
use Rattle.least.specs.declared.refusals.RouteRefusal.TheVariants.{ShortMemory, NoRoute}

-- the number of each refusal
abbrev pub route_number : RouteRefusal → ℕ
route_number ShortMemory = 15
route_number NoRoute = 25

-- what each says in words
abbrev pub route_words : RouteRefusal → List ℕ
route_words ShortMemory = codes "fewer places of memory than a route can have legs"
route_words NoRoute = floor_words FloorNoRoute

-- what a result says: the number of legs and the regret, or the number of the refusal
abbrev pub route_outcome : Result FoundRoute RouteRefusal → Outcome
route_outcome result = outcome_by (λ (found : FoundRoute). found.legs ∷ found.regret ∷ []) route_number result

-- the first places of the memory hold the route of least regret, and the places after it are what they were
pub record HoldsLeastRegret (t : Query) (fixes : ℕ) (memory : List ℕ) (legs regret : ℕ) (memory' : List ℕ) : Type 0 where
  pub room : fixes ≤ length memory + 1
  pub fits : legs ≤ length memory
  pub least : IsLeastRegret t (take legs memory') regret
  pub later : drop legs memory' ≡ drop legs memory

-- there is no route
abbrev pub HasNoRoute : Query → Type 0
HasNoRoute t = (q : List ℕ) → IsRoute t q → ⊥

-- The route of least regret is written; or the memory is what it was, with 15 where it has no place for all fixes but
-- one, and with 25 where it has and there is no route.
abbrev pub IsRouteOutcome : Query → (fixes : ℕ) → (memory : List ℕ) → Outcome → (memory' : List ℕ) → Type 0
IsRouteOutcome t fixes memory (values (legs ∷ regret ∷ [])) memory' = HoldsLeastRegret t fixes memory legs regret memory'
IsRouteOutcome t fixes memory (refused n) memory' =
    (((n ≡ 15) × (length memory + 1 < fixes)) ⊎ ((n ≡ 25) × (fixes ≤ length memory + 1) × HasNoRoute t))
    × (memory' ≡ memory)
IsRouteOutcome t fixes memory _ memory' = ⊥
