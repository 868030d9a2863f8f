-- The choice of times that is worst for a route.
use Rattle.std.proofs.Common.{◌≡◌, ℕ, ◌+◌, ◌-◌, ◌<◌, ◌≤◌, cond, eqb, ◌⊎◌, List, [], ◌∷◌, length, refl, inr, arith, eq-eqb, ne_eqb}
use Rattle.std.proofs.lemmas.Bool.{cases_eq}
use Rattle.chart.specs.declared.leg.Leg.{Leg}
use Rattle.chart.specs.Legs.{leg_at}
use Rattle.chart.specs.Routes.{Leads, fixes_entered, IsIn, HasNoRepeats}
use Rattle.chart.specs.Regret.{IsChoice, time, IsWorstChoice, WorstChoiceGivesRegret, RegretIsUnique}

pub in_or : (x : ℕ) (ys : List ℕ) → IsIn x ys ⊎ (IsIn x ys → ⊥)
in_or x [] = inr (λ n. n)
in_or x (y ∷ ys) = grind (arith, in_or x ys, cases_eq x y)

-- the legs of a route are distinct, since its fixes are
pub in_fixes_entered : (legs : List Leg) (ks : List ℕ) (k : ℕ) → IsIn k ks → IsIn (leg_at legs k).to (fixes_entered legs ks)
in_fixes_entered legs [] k i = i
in_fixes_entered legs (m ∷ ms) k i = grind (arith, in_fixes_entered legs ms k)

pub legs_have_no_repeats : (legs : List Leg) (ks : List ℕ) → HasNoRepeats (fixes_entered legs ks) → HasNoRepeats ks
legs_have_no_repeats legs [] d = tt
legs_have_no_repeats legs (k ∷ ks) d = (λ i. d.0 (in_fixes_entered legs ks k i), legs_have_no_repeats legs ks d.1)

pub legs_there : (legs : List Leg) (ks : List ℕ) (s z : ℕ) → Leads legs s ks z → (k : ℕ) → IsIn k ks → k < length legs
legs_there legs [] s z c k i = absurd i
legs_there legs (m ∷ ms) s z c k i = grind (arith, legs_there legs ms (leg_at legs m).to z c.1 k)

-- a time that only the leg x takes
abbrev alone : ℕ → ℕ → ℕ → ℕ
alone x d k = cond (eqb k x) d 0

-- d over the legs of p, given to each leg alone
abbrev spread : List ℕ → (ℕ → ℕ) → ℕ → ℕ
spread [] d k = 0
spread (x ∷ xs) d k = alone x (d x) k + spread xs d k

time_sum : (f g : ℕ → ℕ) (r : List ℕ) → time (λ k. f k + g k) r ≡ time f r + time g r
time_sum f g [] = refl
time_sum f g (k ∷ r) = let h = time_sum f g r in omega arith

time_zero : (r : List ℕ) → time (λ _. 0) r ≡ 0
time_zero [] = refl
time_zero (k ∷ r) = let h = time_zero r in omega arith

alone_none : (x d : ℕ) (r : List ℕ) → (IsIn x r → ⊥) → time (alone x d) r ≡ 0
alone_none x d [] n = refl
alone_none x d (k ∷ r) n = grind (arith, alone_none x d r, ne_eqb)

alone_no_repeats : (x d : ℕ) (r : List ℕ) → HasNoRepeats r → time (alone x d) r ≤ d
alone_no_repeats x d [] n = omega arith
alone_no_repeats x d (k ∷ r) n = grind (arith, alone_no_repeats x d r, alone_none x d r, cases_eq k x, eq-eqb, ne_eqb)

spread_time : (p : List ℕ) (d : ℕ → ℕ) (r : List ℕ) → HasNoRepeats r → time (spread p d) r ≤ time d p
spread_time [] d r n = let h = time_zero r in omega arith
spread_time (x ∷ xs) d r n =
    let h = spread_time xs d r n in
    let a = alone_no_repeats x (d x) r n in
    let s = time_sum (alone x (d x)) (spread xs d) r in
    omega arith

spread_in : (p : List ℕ) (d : ℕ → ℕ) (k : ℕ) → IsIn k p → d k ≤ spread p d k
spread_in [] d k i = absurd i
spread_in (x ∷ xs) d k i = grind (arith, spread_in xs d k, eq-eqb)

pub time_le : (f g : ℕ → ℕ) (r : List ℕ) → ((k : ℕ) → IsIn k r → f k ≤ g k) → time f r ≤ time g r
time_le f g [] h = omega arith
time_le f g (k ∷ r) h = grind (arith, time_le f g r)

pub time_same : (f g : ℕ → ℕ) (r : List ℕ) → ((k : ℕ) → IsIn k r → f k ≡ g k) → time f r ≡ time g r
time_same f g [] h = refl
time_same f g (k ∷ r) h = grind (arith, time_same f g r)

module _ (legs : List Leg) (p : List ℕ) (w : ℕ → ℕ) (worst : IsWorstChoice legs p w) (s : ℕ → ℕ) (choice : IsChoice legs s) where
  abbrev slack : ℕ → ℕ
  slack k = (leg_at legs k).high - s k

  -- what w takes more than s, route by route
  on_p : ((k : ℕ) → IsIn k p → k < length legs) → time w p ≡ time s p + time slack p
  on_p there =
      let e = time_sum s slack p in
      let a = time_le w (λ k. s k + slack k) p (λ k i. let c = choice k (there k i) in omega (arith, worst.on k i)) in
      let b = time_le (λ k. s k + slack k) w p (λ k i. let c = choice k (there k i) in omega (arith, worst.on k i)) in
      omega arith

  on_r : (r : List ℕ) → HasNoRepeats r → ((k : ℕ) → IsIn k r → k < length legs) → time w r ≤ time s r + time slack p
  on_r r once there =
      let h = spread_time p slack r once in
      let e = time_sum s (spread p slack) r in
      let a = time_le w (λ k. s k + spread p slack k) r (λ k i. grind (arith, choice k (there k i), worst.on k, worst.off k, spread_in p slack k, in_or k p)) in
      omega arith

  pub exchange : (r : List ℕ) → HasNoRepeats r → ((k : ℕ) → IsIn k p → k < length legs) → ((k : ℕ) → IsIn k r → k < length legs) → time s p + time w r ≤ time w p + time s r
  exchange r once inp inr' = let a = on_p inp in let b = on_r r once inr' in omega arith

pub worst_choice_gives_regret : WorstChoiceGivesRegret
worst_choice_gives_regret t p w b x is_route worst least difference = record {
  choice = w;
  chosen = λ k lt. grind (arith, worst.on k, worst.off k, in_or k p, (leg_at t.legs k).ordered);
  loses = record { best = b; least = least; difference = difference };
  most = λ c y choice loses.
      let q = loses.least.by in
      let goes = loses.least.is_route in
      let e =
      exchange t.legs p w worst c choice q (legs_have_no_repeats t.legs q goes.chain.once.1)
      (legs_there t.legs p t.source t.destination is_route.chain.leads)
      (legs_there t.legs q t.source t.destination goes.chain.leads) in
      let h = least.least q goes in
      omega (arith, loses.difference, loses.least.takes);
}

pub regret_is_unique : RegretIsUnique
regret_is_unique t p x y a b =
    let u = a.most b.choice y b.chosen b.loses in
    let v = b.most a.choice x a.chosen a.loses in
    omega arith
