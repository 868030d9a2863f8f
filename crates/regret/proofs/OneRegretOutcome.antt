-- A list has one regret outcome.
use Rattle.std.proofs.Common.{◌≡◌, ℕ, List, [], ◌∷◌, sym, ap, ◌∙◌}
use Rattle.chart.specs.Outcomes.{Outcome, values, refused}
use Rattle.chart.specs.Regret.{Query}
use Rattle.regret.specs.Answers.{IsRegretOutcome}
use Rattle.regret.proofs.WorstChoice.{regret_is_unique}

pub regret_outcome_is_one : (t : Query) (list : List ℕ) (s s' : Outcome) → IsRegretOutcome t list s → IsRegretOutcome t list s' → s ≡ s'
regret_outcome_is_one t list (values (x ∷ [])) (values (y ∷ [])) a b = ap (λ z. values (z ∷ [])) (regret_is_unique t list x y a.1 b.1)
regret_outcome_is_one t list (values (x ∷ [])) (refused n) a b = absurd (b.1 a.0)
regret_outcome_is_one t list (refused n) (values (x ∷ [])) a b = absurd (a.1 b.0)
regret_outcome_is_one t list (refused n) (refused m) a b = ap refused (a.0 ∙ sym b.0)
regret_outcome_is_one t list (values (x ∷ [])) _ a b = absurd b
regret_outcome_is_one t list (refused n) _ a b = absurd b
regret_outcome_is_one t list _ _ a b = absurd a
