-- What the regret call answers.
use Rattle.std.specs.Prelude.{◌≡◌, ℕ, List, [], ◌∷◌, Result, codes}
use Rattle.chart.specs.Outcomes.{Outcome, values, refused, outcome_by}
use Rattle.chart.specs.Regret.{Query, IsRoute, HasRegret}
use Rattle.regret.specs.declared.refusals.RegretRefusal.{RegretRefusal}
use Rattle.regret.specs.declared.refusals.RegretRefusal.TheVariants.{NotARoute}

-- the number of the refusal
abbrev pub regret_number : RegretRefusal → ℕ
regret_number NotARoute = 14

-- what it says in words
abbrev pub regret_words : RegretRefusal → List ℕ
regret_words NotARoute = codes "not a route, or not a chain that leaves the departure"

-- what a result says: the seconds, or the number
abbrev pub regret_outcome : Result ℕ RegretRefusal → Outcome
regret_outcome result = outcome_by (λ x. x ∷ []) regret_number result

-- the regret of a route, or 14 where the list is none
abbrev pub IsRegretOutcome : Query → List ℕ → Outcome → Type 0
IsRegretOutcome t list (values (x ∷ [])) = IsRoute t list × HasRegret t list x
IsRegretOutcome t list (refused n) = (n ≡ 14) × (IsRoute t list → ⊥)
IsRegretOutcome t list _ = ⊥
