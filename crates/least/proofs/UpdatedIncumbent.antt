-- One list compared with the incumbent.
use Rattle.std.proofs.Common.{◌≡◌, ℕ, Bool, true, Bor, MatchBool, MatchOption, option_copied, ◌⊎◌, List, Some, None, Option, sym, ◌∙◌, subst, subst₂, inl, inr, ⊎_elim}
use Rattle.chart.specs.Regret.{Query, IsRoute, HasRegret, IsPreferred}
use Rattle.regret.proofs.WorstChoice.{regret_is_unique}
use Rattle.least.specs.declared.branch_and_bound.Incumbent.{Incumbent}
use Rattle.least.specs.internal.BranchAndBound.{IsValidIncumbent, Dominates, IsSearched, IsOnly}
use Rattle.least.proofs.LexicalOrder.{preferred_trans}
use Rattle.least.proofs.SearchedParts.{searched_none}

-- p, of the regret x, is better than the incumbent
abbrev pub IsBetter : ℕ → List ℕ → Option Incumbent → Type 0
IsBetter x p None = Unit {0}
IsBetter x p (Some b) = IsPreferred x p b.regret b.list.items

-- p, of the regret x, is the incumbent or worse
abbrev pub IsNoBetter : ℕ → List ℕ → Option Incumbent → Type 0
IsNoBetter x p None = ⊥
IsNoBetter x p (Some b) = (b.list.items ≡ p) ⊎ IsPreferred b.regret b.list.items x p

module _ (t : Query) (p : List ℕ) (x : ℕ) (is_route : IsRoute t p) (regret : HasRegret t p x) where
  new_dominates : (incumbent : Option Incumbent) → IsValidIncumbent t incumbent → IsBetter x p incumbent → (q : List ℕ) → Dominates t incumbent q → (y : ℕ) → HasRegret t q y → (p ≡ q) ⊎ IsPreferred x p y q
  new_dominates None s b q cov y r = absurd cov
  new_dominates (Some h) s b q cov y r =
      ⊎_elim
      (λ e. inr (subst₂ (λ z l. IsPreferred x p z l) (regret_is_unique t q h.regret y (subst (λ l. HasRegret t l h.regret) e s.regret) r) e b))
      (λ w. inr (preferred_trans x h.regret y p h.list.items q b w))
      (cov y r)

  pub better_replaces : (incumbent : Option Incumbent) → IsValidIncumbent t incumbent → IsBetter x p incumbent → (b : Incumbent) → b.list.items ≡ p → b.regret ≡ x → IsSearched t incumbent (Some b) (IsOnly p)
  better_replaces incumbent s better b list is = record {
    is_valid = record {
      is_route = subst (λ l. IsRoute t l) (sym list) is_route;
      regret = subst₂ (λ l z. HasRegret t l z) (sym list) (sym is) regret;
    };
    kept = λ q _ cov y r. subst₂ (λ l z. (l ≡ q) ⊎ IsPreferred z l y q) (sym list) (sym is) (new_dominates incumbent s better q cov y r);
    all = λ q _ o y r. inl (list ∙ sym o);
  }

  pub worse_keeps : (incumbent : Option Incumbent) → IsValidIncumbent t incumbent → IsNoBetter x p incumbent → IsSearched t incumbent incumbent (IsOnly p)
  worse_keeps None s n = absurd n
  worse_keeps (Some h) s n = searched_none s (λ q _ o y r.
      let e = regret_is_unique t p x y regret (subst (λ l. HasRegret t l y) o r) in
      subst₂ (λ z l. (h.list.items ≡ l) ⊎ IsPreferred h.regret h.list.items z l) e (sym o) n)

-- a test that answers true where there is no incumbent
pub better_told : (x : ℕ) (p : List ℕ) (o : Option (Bor Incumbent)) (incumbent : Option Incumbent) → option_copied o ≡ incumbent → (r : Bool) (P : Bor Incumbent → Type 0) → MatchOption o (r ≡ true) P → ((b : Bor Incumbent) → P b → MatchBool r (IsPreferred x p b.now.regret b.now.list.items) ((b.now.list.items ≡ p) ⊎ IsPreferred b.now.regret b.now.list.items x p)) → MatchBool r (IsBetter x p incumbent) (IsNoBetter x p incumbent)
better_told x p o incumbent e r P w h = subst (λ k. MatchBool r (IsBetter x p k) (IsNoBetter x p k)) e (by_ref o w)
  where
    by_ref : (o : Option (Bor Incumbent)) → MatchOption o (r ≡ true) P → MatchBool r (IsBetter x p (option_copied o)) (IsNoBetter x p (option_copied o))
    by_ref None t = rw t tt
    by_ref (Some b) q = h b q
