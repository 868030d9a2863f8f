-- What a call answers, whatever the type of its answer: values, or the number of a refusal.
use Rattle.std.specs.Prelude.{ℕ, List, Ok, Err, Result}

pub data Outcome : Type 0 where
  values : List ℕ → Outcome
  refused : ℕ → Outcome

-- the outcome of a result: the values of what is granted, or the number of the refusal
abbrev pub outcome_by : {T E : Type 0} → (T → List ℕ) → (E → ℕ) → Result T E → Outcome
outcome_by values_of number_of (Ok x) = values (values_of x)
outcome_by values_of number_of (Err e) = refused (number_of e)
