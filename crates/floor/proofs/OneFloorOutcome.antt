-- A list has one floor outcome.
use Rattle.std.proofs.Common.{◌≡◌, ℕ, List, [], ◌∷◌, sym, ap, ◌∙◌, inl, inr}
use Rattle.chart.specs.Outcomes.{Outcome, values, refused}
use Rattle.chart.specs.Regret.{Query}
use Rattle.floor.specs.Answers.{IsFloorOutcome}
use Rattle.floor.proofs.FloorBelowRegret.{floor_is_unique}

module _ (t : Query) (ks : List ℕ) where
  one_number : (n m : ℕ) → IsFloorOutcome t ks (refused n) → IsFloorOutcome t ks (refused m) → n ≡ m
  one_number n m (inl a) (inl b) = a.0 ∙ sym b.0
  one_number n m (inl a) (inr b) = absurd (a.1 b.1)
  one_number n m (inr a) (inl b) = absurd (b.1 a.1)
  one_number n m (inr a) (inr b) = a.0 ∙ sym b.0

  -- a floor is of a chain that some route begins with
  not_both : (x n : ℕ) → IsFloorOutcome t ks (values (x ∷ [])) → IsFloorOutcome t ks (refused n) → ⊥
  not_both x n a (inl b) = b.1 a.0
  not_both x n a (inr b) = let near = a.1.extension in b.2 near.by near.is_route near.extends

  pub floor_outcome_is_one : (s s' : Outcome) → IsFloorOutcome t ks s → IsFloorOutcome t ks s' → s ≡ s'
  floor_outcome_is_one (values (x ∷ [])) (values (y ∷ [])) a b = ap (λ z. values (z ∷ [])) (floor_is_unique t ks x y a.1 b.1)
  floor_outcome_is_one (values (x ∷ [])) (refused n) a b = absurd (not_both x n a b)
  floor_outcome_is_one (refused n) (values (x ∷ [])) a b = absurd (not_both x n b a)
  floor_outcome_is_one (refused n) (refused m) a b = ap refused (one_number n m a b)
  floor_outcome_is_one (values (x ∷ [])) _ a b = absurd b
  floor_outcome_is_one (refused n) _ a b = absurd b
  floor_outcome_is_one _ _ a b = absurd a
