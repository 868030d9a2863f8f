-- Parts of the search, one after the other.
use Rattle.std.proofs.Common.{ℕ, ◌⊎◌, List, Option, ⊎_elim}
use Rattle.chart.specs.Regret.{Query, IsRoute}
use Rattle.least.specs.declared.branch_and_bound.Incumbent.{Incumbent}
use Rattle.least.specs.internal.BranchAndBound.{IsValidIncumbent, Dominates, IsSearched}

-- nothing done, where nothing is left to do
pub searched_none : {t : Query} {incumbent : Option Incumbent} {S : List ℕ → Type 0} → IsValidIncumbent t incumbent → ((q : List ℕ) → IsRoute t q → S q → Dominates t incumbent q) → IsSearched t incumbent incumbent S
searched_none s h = record { is_valid = s; kept = λ q is_route cov. cov; all = h }

-- what two parts have searched, one after the other
pub searched_both : {t : Query} {b₀ b₁ b₂ : Option Incumbent} {S R Q : List ℕ → Type 0} → IsSearched t b₀ b₁ S → IsSearched t b₁ b₂ R → ((q : List ℕ) → IsRoute t q → Q q → S q ⊎ R q) → IsSearched t b₀ b₂ Q
searched_both x y h = record {
  is_valid = y.is_valid;
  kept = λ q is_route cov. y.kept q is_route (x.kept q is_route cov);
  all = λ q is_route s. ⊎_elim (λ a. y.kept q is_route (x.all q is_route a)) (λ a. y.all q is_route a) (h q is_route s);
}

-- what is searched, said of other lists
pub searched_of : {t : Query} {b₀ b₁ : Option Incumbent} {S Q : List ℕ → Type 0} → IsSearched t b₀ b₁ S → ((q : List ℕ) → IsRoute t q → Q q → S q) → IsSearched t b₀ b₁ Q
searched_of x h = record { is_valid = x.is_valid; kept = x.kept; all = λ q is_route s. x.all q is_route (h q is_route s) }
