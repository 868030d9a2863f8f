-- There is one best total at most: of two, each would be as good as the other.
use Rattle.std.proofs.Common.{◌≡◌, ℕ, List, Some, None, refl, ap, subst}
use Rattle.chart.specs.declared.leg.Leg.{Leg}
use Rattle.chart.specs.Kinds.{Rule, Laws}
use Rattle.chart.specs.Best.{IsBest, BestTotalIsUnique}

as_good_as_best : {T : Type 0} (rule : Rule T) (legs : List Leg) (s t : ℕ) (x y : T) → IsBest rule legs s t x → IsBest rule legs s t y → rule.order x y
as_good_as_best rule legs s t x y a b = subst (rule.order x) b.some.2 (a.every b.some.0 b.some.1)

pub best_is_unique : {T : Type 0} (rule : Rule T) → Laws rule → (legs : List Leg) (s t : ℕ) (x y : T) → IsBest rule legs s t x → IsBest rule legs s t y → x ≡ y
best_is_unique rule laws legs s t x y a b = laws.antisymmetric x y (as_good_as_best rule legs s t x y a b) (as_good_as_best rule legs s t y x b a)

pub best_total_is_unique : {T : Type 0} (rule : Rule T) → Laws rule → BestTotalIsUnique rule
best_total_is_unique rule laws legs s t None None a b = refl
best_total_is_unique rule laws legs s t None (Some y) a b = absurd (a b.some.0 b.some.1)
best_total_is_unique rule laws legs s t (Some x) None a b = absurd (b a.some.0 a.some.1)
best_total_is_unique rule laws legs s t (Some x) (Some y) a b = ap Some (best_is_unique rule laws legs s t x y a b)
