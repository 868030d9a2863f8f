-- A route call has one outcome, and leaves the memory in one way.
use Rattle.std.proofs.Common.{◌≡◌, ℕ, ◌+◌, ◌<◌, ◌≤◌, ◌⊎◌, List, [], ◌∷◌, ◌++◌, length, take, drop, sym, ap, ◌∙◌, inl, inr, arith}
use Rattle.std.proofs.lemmas.List.{length-take, take-append-drop}
use Rattle.chart.specs.Outcomes.{Outcome, values, refused}
use Rattle.chart.specs.Regret.{Query}
use Rattle.least.specs.Answers.{HoldsLeastRegret, HasNoRoute, IsRouteOutcome}
use Rattle.least.proofs.UniqueLeastRegret.{least_regret_is_unique}

module _ (t : Query) (n : ℕ) (memory : List ℕ) where
  -- a route call is refused with one number
  abbrev Refused : ℕ → Type 0
  Refused k = ((k ≡ 15) × (length memory + 1 < n)) ⊎ ((k ≡ 25) × (n ≤ length memory + 1) × HasNoRoute t)

  one_number : (k m : ℕ) → Refused k → Refused m → k ≡ m
  one_number k m (inl a) (inl b) = a.0 ∙ sym b.0
  one_number k m (inl a) (inr b) = absurd (omega (arith, a.1, b.1))
  one_number k m (inr a) (inl b) = absurd (omega (arith, a.1, b.1))
  one_number k m (inr a) (inr b) = a.0 ∙ sym b.0

  -- and with none where there is a route, and a place for it
  not_both : (legs regret k : ℕ) (memory' : List ℕ) → HoldsLeastRegret t n memory legs regret memory' → Refused k → ⊥
  not_both legs regret k memory' a (inl b) = omega (arith, a.room, b.1)
  not_both legs regret k memory' a (inr b) = b.2 (take legs memory') a.least.is_route

  module _ (memory' memory'' : List ℕ) (e : length memory' ≡ length memory) (e' : length memory'' ≡ length memory) where
    one_route : (legs regret legs' regret' : ℕ) → HoldsLeastRegret t n memory legs regret memory' → HoldsLeastRegret t n memory legs' regret' memory'' → (legs ≡ legs') × (regret ≡ regret') × (memory' ≡ memory'')
    one_route legs regret legs' regret' a b =
        let u = least_regret_is_unique t (take legs memory') (take legs' memory'') regret regret' a.least b.least in
        let same : legs ≡ legs' =
        (let p = length-take legs memory' in let q = length-take legs' memory'' in let r = ap length u.0 in omega (arith, e, e', a.fits, b.fits)) in (
          same,
          u.1,
          sym (take-append-drop legs memory')
              ∙ (λ i. u.0 i ++ (a.later ∙ ap (λ k. drop k memory) same ∙ sym b.later) i)
              ∙ take-append-drop legs' memory'',
        )

    pub route_outcome_is_one : (s s' : Outcome) → IsRouteOutcome t n memory s memory' → IsRouteOutcome t n memory s' memory'' → (s ≡ s') × (memory' ≡ memory'')
    route_outcome_is_one (values (x ∷ y ∷ [])) (values (x' ∷ y' ∷ [])) a b =
        let one = one_route x y x' y' a b in
        ((λ i. values (one.0 i ∷ one.1 i ∷ [])), one.2)
    route_outcome_is_one (values (x ∷ y ∷ [])) (refused k) a b = absurd (not_both x y k memory' a b.0)
    route_outcome_is_one (refused k) (values (x ∷ y ∷ [])) a b = absurd (not_both x y k memory'' b a.0)
    route_outcome_is_one (refused k) (refused m) a b = (ap refused (one_number k m a.0 b.0), a.1 ∙ sym b.1)
    route_outcome_is_one (values (x ∷ y ∷ [])) _ a b = absurd b
    route_outcome_is_one (refused k) _ a b = absurd b
    route_outcome_is_one _ _ a b = absurd a
