-- What a kind of total is, and the three kinds: seconds under a choice of times, high-time seconds
-- with the number of legs, and level.
use Rattle.std.specs.Prelude.{◌≡◌, ℕ, ◌+◌, ◌*◌, ◌^◌, ◌<◌, ◌≤◌, min, Bool, true, false, ◌⊎◌}
use prog.Memory.{size}
use denote.Param.{layout}
use Rattle.std.specs.Borrow.{RattleType}
use Rattle.chart.specs.declared.leg.Leg.{Leg}
use Rattle.chart.specs.declared.kind.QuickestTotal.{QuickestTotal}
use Rattle.chart.specs.Limits.{max_fixes, max_level}

-- A kind of total: what it starts as, how a leg is added by its number and itself,
-- and the order: `order a b` says that a is as good as b.
pub record Rule (T : Type 0) : Type 1 where
  pub start : T
  pub add : T → ℕ → Leg → T
  pub order : T → T → Type 0

-- The laws of a kind. Its order is total, transitive and antisymmetric. To add one leg on both sides keeps the order,
-- and a total is as good as what a further leg makes of it.
pub record Laws {T : Type 0} (r : Rule T) : Type 0 where
  pub compares : (a b : T) → r.order a b ⊎ r.order b a
  pub transitive : (a b c : T) → r.order a b → r.order b c → r.order a c
  pub antisymmetric : (a b : T) → r.order a b → r.order b a → a ≡ b
  pub add_monotone : (a b : T) (k : ℕ) (l : Leg) → r.order a b → r.order (r.add a k l) (r.add b k l)
  pub add_inflationary : (a : T) (k : ℕ) (l : Leg) → r.order a (r.add a k l)

-- a total is made of as many legs as were added to the start
pub data IsMadeOf {T : Type 0} (r : Rule T) : ℕ → T → Type 0 where
  none : IsMadeOf r 0 r.start
  more : (n : ℕ) (t : T) (k : ℕ) (l : Leg) → IsMadeOf r n t → IsMadeOf r (n + 1) (r.add t k l)

-- t is made of so few legs that a route can have one more
abbrev pub HasFewLegs : {T : Type 0} → Rule T → T → Type 0
HasFewLegs r t = (n : ℕ) × IsMadeOf r n t × (n + 1 < max_fixes)

-- whether a is better than b: as good, and not the other way round
abbrev pub TellsBetter : {T : Type 0} → Rule T → T → T → Bool → Type 0
TellsBetter r a b true = r.order a b × (r.order b a → ⊥)
TellsBetter r a b false = r.order b a

-- so small a type that one of them for each fix fits in memory
abbrev pub Compact : RattleType → Type 0
Compact R = max_fixes * size (layout R) < 2 ^ 63

-- how long a leg takes, by its number and itself
abbrev pub Times : Type 0
Times = ℕ → Leg → ℕ

-- every leg takes from its low to its high time
abbrev pub IsBounded : Times → Type 0
IsBounded c = (k : ℕ) (l : Leg) → (l.low ≤ c k l) × (c k l ≤ l.high)

abbrev pub high_times : Times
high_times k l = l.high

abbrev pub low_times : Times
low_times k l = l.low

-- seconds add up, and fewer is better
abbrev pub seconds_rule : Times → Rule ℕ
seconds_rule c = record { start = 0; add = λ t k l. t + c k l; order = λ a b. a ≤ b }

-- fewer seconds is better, then fewer legs
abbrev pub IsSooner : QuickestTotal → QuickestTotal → Type 0
IsSooner a b = (a.seconds < b.seconds) ⊎ ((a.seconds ≡ b.seconds) × (a.legs ≤ b.legs))

-- each leg adds its high time to the seconds, and one to the legs
abbrev pub quickest_rule : Rule QuickestTotal
quickest_rule = record {
  start = record { seconds = 0; legs = 0 };
  add = λ t k l. record { seconds = t.seconds + l.high; legs = t.legs + 1 };
  order = IsSooner;
}

-- a level is the lowest top of the legs, and the highest level where there is none of them; higher is better
abbrev pub level_rule : Rule ℕ
level_rule = record { start = max_level; add = λ t k l. min t l.top; order = λ a b. b ≤ a }
