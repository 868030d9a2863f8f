-- A query has one quickest outcome and one level outcome.
use Rattle.std.proofs.Common.{◌≡◌, [], ◌∷◌, sym, ap, ◌∙◌}
use Rattle.chart.specs.declared.kind.QuickestTotal.{QuickestTotal}
use Rattle.chart.specs.Outcomes.{Outcome, values, refused}
use Rattle.chart.specs.Kinds.{level_rule, quickest_rule}
use Rattle.chart.specs.laws.Kinds.{level_laws, quickest_laws}
use Rattle.chart.specs.Regret.{Query}
use Rattle.chart.proofs.BestTotals.{best_is_unique}
use Rattle.plan.specs.Answers.{IsQuickestOutcome, IsLevelOutcome}

module _ (t : Query) where
  pub quickest_outcome_is_one : (s s' : Outcome) → IsQuickestOutcome t s → IsQuickestOutcome t s' → s ≡ s'
  quickest_outcome_is_one (values (x ∷ y ∷ [])) (values (x' ∷ y' ∷ [])) a b =
      ap (λ (z : QuickestTotal). values (z.seconds ∷ z.legs ∷ [])) (best_is_unique quickest_rule quickest_laws t.legs t.source t.destination (record { seconds = x; legs = y }) (record { seconds = x'; legs = y' }) a b)
  quickest_outcome_is_one (values (x ∷ y ∷ [])) (refused n) a b = absurd (b.1 a.some.0 a.some.1)
  quickest_outcome_is_one (refused n) (values (x ∷ y ∷ [])) a b = absurd (a.1 b.some.0 b.some.1)
  quickest_outcome_is_one (refused n) (refused m) a b = ap refused (a.0 ∙ sym b.0)
  quickest_outcome_is_one (values (x ∷ y ∷ [])) _ a b = absurd b
  quickest_outcome_is_one (refused n) _ a b = absurd b
  quickest_outcome_is_one _ _ a b = absurd a

  pub level_outcome_is_one : (s s' : Outcome) → IsLevelOutcome t s → IsLevelOutcome t s' → s ≡ s'
  level_outcome_is_one (values (x ∷ [])) (values (y ∷ [])) a b = ap (λ z. values (z ∷ [])) (best_is_unique level_rule level_laws t.legs t.source t.destination x y a b)
  level_outcome_is_one (values (x ∷ [])) (refused n) a b = absurd (b.1 a.some.0 a.some.1)
  level_outcome_is_one (refused n) (values (x ∷ [])) a b = absurd (a.1 b.some.0 b.some.1)
  level_outcome_is_one (refused n) (refused m) a b = ap refused (a.0 ∙ sym b.0)
  level_outcome_is_one (values (x ∷ [])) _ a b = absurd b
  level_outcome_is_one (refused n) _ a b = absurd b
  level_outcome_is_one _ _ a b = absurd a
