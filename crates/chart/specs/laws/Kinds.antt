-- The proofs that the kinds keep their laws and the plain choices their bounds. There is nothing here to believe:
-- it stands among the definitions since the kinds themselves cite it.
use Rattle.std.specs.Prelude.{◌≡◌, ℕ, ◌≤◌, ◌⊎◌}
use Rattle.std.proofs.Common.{ap, ◌∙◌, inl, inr, ⊎_elim, arith}
use Rattle.std.proofs.Math.Decide.{dec_le}
use Rattle.chart.specs.declared.kind.QuickestTotal.{QuickestTotal}
use Rattle.chart.specs.Kinds.{Laws, Times, IsBounded, high_times, low_times, seconds_rule, IsSooner, quickest_rule, level_rule}

pub high_bounded : IsBounded high_times
high_bounded k l = (l.ordered, omega arith)

pub low_bounded : IsBounded low_times
low_bounded k l = (omega arith, l.ordered)

le_or : (a b : ℕ) → (a ≤ b) ⊎ (b ≤ a)
le_or a b = elim (dec_le a b) [ yes p ↦ inl p | no n ↦ inr (omega arith) ]

pub seconds_laws : (c : Times) → Laws (seconds_rule c)
seconds_laws times = record {
  compares = le_or;
  transitive = λ a b c p q. omega arith;
  antisymmetric = λ a b p q. omega arith;
  add_monotone = λ a b k l p. omega arith;
  add_inflationary = λ a k l. omega arith;
}

pub level_laws : Laws level_rule
level_laws = record {
  compares = λ a b. le_or b a;
  transitive = λ a b c p q. omega arith;
  antisymmetric = λ a b p q. omega arith;
  add_monotone = λ a b k l p. omega arith;
  add_inflationary = λ a k l. omega arith;
}

sooner_or : (a b : QuickestTotal) → IsSooner a b ⊎ IsSooner b a
sooner_or a b =
    elim (dec_le b.seconds a.seconds) [
      | no n ↦ inl (inl (omega arith))
      | yes p ↦
          elim (dec_le a.seconds b.seconds) [
            | no n ↦ inr (inl (omega arith))
            | yes q ↦ ⊎_elim (λ h. inl (inr (omega arith, h))) (λ h. inr (inr (omega arith, h))) (le_or a.legs b.legs)
          ]
    ]

sooner_transitive : (a b c : QuickestTotal) → IsSooner a b → IsSooner b c → IsSooner a c
sooner_transitive a b c p q =
    ⊎_elim
    (λ x. ⊎_elim (λ y. inl (omega arith)) (λ y. inl (omega arith)) q)
    (λ x. ⊎_elim (λ y. inl (omega arith)) (λ y. inr (omega arith, omega arith)) q)
    p

sooner_antisymmetric : (a b : QuickestTotal) → IsSooner a b → IsSooner b a → a ≡ b
sooner_antisymmetric a b p q =
    let seconds : a.seconds ≡ b.seconds = ⊎_elim (λ x. ⊎_elim (λ y. omega arith) (λ y. omega arith) q) (λ x. x.0) p in
    let legs : a.legs ≡ b.legs = ⊎_elim (λ x. omega arith) (λ x. ⊎_elim (λ y. omega arith) (λ y. omega arith) q) p in
    ap (λ n. record { seconds = n; legs = a.legs }) seconds ∙ ap (λ n. record { seconds = b.seconds; legs = n }) legs

pub quickest_laws : Laws quickest_rule
quickest_laws = record {
  compares = sooner_or;
  transitive = sooner_transitive;
  antisymmetric = sooner_antisymmetric;
  add_monotone = λ a b k l p. ⊎_elim (λ x. inl (omega arith)) (λ x. inr (omega arith, omega arith)) p;
  add_inflationary = λ a k l. elim (dec_le l.high 0) [ yes p ↦ inr (omega arith, omega arith) | no n ↦ inl (omega arith) ];
}
