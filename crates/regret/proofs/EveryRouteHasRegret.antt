-- No route is without a regret, and none takes longer than another one by more than it.
use Rattle.std.proofs.Common.{◌≡◌, ℕ, zero, suc, ◌+◌, ◌-◌, ◌<◌, ◌≤◌, ◌⊎◌, List, refl, inl, inr, ⊎_elim, arith}
use Rattle.std.proofs.lemmas.Bool.{cases_lt}
use Rattle.chart.specs.declared.leg.Leg.{Leg}
use Rattle.chart.specs.Legs.{leg_at}
use Rattle.chart.specs.Regret.{Query, IsRoute, time, IsLeastTime, IsWorstChoice, RegretIsNeverExceeded, EveryRouteHasARegret}
use Rattle.regret.proofs.WorstChoice.{in_or, worst_choice_gives_regret}

-- one of two times, by what was decided
decided_time : {A : Type 0} → ℕ → ℕ → A ⊎ (A → ⊥) → ℕ
decided_time h l (inl a) = h
decided_time h l (inr n) = l

decided_on : {A : Type 0} (h l : ℕ) (d : A ⊎ (A → ⊥)) → A → decided_time h l d ≡ h
unfolding decided_time
decided_on h l (inl a) x = refl
decided_on h l (inr n) x = absurd (n x)

decided_off : {A : Type 0} (h l : ℕ) (d : A ⊎ (A → ⊥)) → (A → ⊥) → decided_time h l d ≡ l
unfolding decided_time
decided_off h l (inl a) x = absurd (x a)
decided_off h l (inr n) x = refl

-- the choice that is worst for a list
pub worst_of : List Leg → List ℕ → ℕ → ℕ
worst_of legs p k = decided_time (leg_at legs k).high (leg_at legs k).low (in_or k p)

pub worst_is : (legs : List Leg) (p : List ℕ) → IsWorstChoice legs p (worst_of legs p)
unfolding worst_of
worst_is legs p = record {
  on = λ k i. decided_on (leg_at legs k).high (leg_at legs k).low (in_or k p) i;
  off = λ k n. decided_off (leg_at legs k).high (leg_at legs k).low (in_or k p) n;
}

-- there is not no least time
pub least_not_absent : (t : Query) (c : ℕ → ℕ) (p : List ℕ) → IsRoute t p → ((b : ℕ) → IsLeastTime t c b → ⊥) → ⊥
least_not_absent t c p is_route none = below (time c p) p is_route (omega arith)
  where
    below : (n : ℕ) (r : List ℕ) → IsRoute t r → time c r ≤ n → ⊥
    below zero r flown le = none (time c r) (record { by = r; is_route = flown; takes = refl; least = λ q other. omega arith })
    below (suc n) r flown le = none (time c r) (record {
      by = r;
      is_route = flown;
      takes = refl;
      least = λ q other. ⊎_elim (λ lt. absurd (below n q other (omega arith))) (λ ge. ge) (cases_lt (time c q) (time c r));
    })

pub every_route_has_a_regret : EveryRouteHasARegret
every_route_has_a_regret t p is_route none =
    let w = worst_of t.legs p in
    least_not_absent t w p is_route (λ b least.
    let h = least.least p is_route in
    none (time w p - b) (worst_choice_gives_regret t p w b (time w p - b) is_route (worst_is t.legs p) least (omega (arith, h))))

-- were it exceeded, the route would lose more in that choice
pub regret_is_never_exceeded : RegretIsNeverExceeded
regret_is_never_exceeded t p x regret c chosen q is_route =
    ⊎_elim
    (λ (lt : time c q + x < time c p). absurd (least_not_absent t c q is_route (λ b least.
    let h = least.least q is_route in
    let y : time c p ≡ b + (time c p - b) = omega (arith, lt, h) in
    let m = regret.most c (time c p - b) chosen (record { best = b; least = least; difference = y }) in
    omega (arith, lt, h, m))))
    (λ (le : time c p ≤ time c q + x). le)
    (cases_lt (time c q + x) (time c p))
