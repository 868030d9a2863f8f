-- How the steps of a lattice stand in the array that it keeps them in.
use Rattle.std.specs.Prelude.{◌≡◌, ℕ, ◌<◌, List}
use Rattle.chart.specs.declared.interval.Step.{Step}
use Rattle.chart.specs.Grid.{step_at}

-- the first n steps stand in the row at their places
pub record AreCopied (steps row : List Step) (n : ℕ) : Type 0 where
  pub copies : (s : ℕ) → s < n → step_at row s ≡ step_at steps s
