-- When a lower bound of the regrets of all routes that begin with a chain shows that none of them can be the answer.
use Rattle.std.specs.Prelude.{◌≡◌, ℕ, ◌-◌, ◌*◌, ◌<◌, ◌⊎◌, List}
use Rattle.chart.specs.Limits.{max_fixes, max_seconds}
use Rattle.chart.specs.Routes.{LexBefore}
use Rattle.chart.specs.Floors.{IsPrefix}

-- no route has more regret: it has fewer legs than there are fixes
abbrev pub most_regret : ℕ
most_regret = max_seconds * (max_fixes - 1)

-- the list p comes before every list that begins with ks
abbrev pub ComesBeforeAll : List ℕ → List ℕ → Type 0
ComesBeforeAll p ks = (q : List ℕ) → IsPrefix ks q → LexBefore p q

-- The bound x of the chain ks shows that each route that begins with it is worse than a route p of the regret y: x is more than
-- y, or as much where no list that begins with ks could come first.
abbrev pub ShowsWorse : ℕ → List ℕ → ℕ → List ℕ → Type 0
ShowsWorse x ks y p = (y < x) ⊎ ((y ≡ x) × ComesBeforeAll p ks)
