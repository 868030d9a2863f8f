-- There is one route of least regret at most: of two, each would come before the other.
use Rattle.std.proofs.Common.{◌≡◌, ℕ, ◌⊎◌, List, [], ◌∷◌, sym, refl, subst, inl, inr, ⊎_elim, arith}
use Rattle.std.proofs.lemmas.Bool.{cases_eq}
use Rattle.chart.specs.Regret.{HasRegret, LeastRegretIsUnique}
use Rattle.regret.proofs.WorstChoice.{regret_is_unique}
use Rattle.least.proofs.LexicalOrder.{preferred_trans, not_preferred_to_itself}

same_or : (p q : List ℕ) → (p ≡ q) ⊎ (p ≡ q → ⊥)
same_or [] [] = inl refl
same_or [] (y ∷ q) = inr (λ e. cc)
same_or (x ∷ p) [] = inr (λ e. cc)
same_or (x ∷ p) (y ∷ q) = grind (arith, same_or p q, cases_eq x y)

pub least_regret_is_unique : LeastRegretIsUnique
least_regret_is_unique t p q x y a b =
    ⊎_elim
    (λ e. (e, regret_is_unique t q x y (subst (λ l. HasRegret t l x) e a.regret) b.regret))
    (λ n.
    absurd
    (not_preferred_to_itself x p
    (preferred_trans x y x p q p (a.first q y b.is_route (λ e. n (sym e)) b.regret) (b.first p x a.is_route n a.regret))))
    (same_or p q)
