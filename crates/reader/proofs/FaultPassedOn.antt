-- What holds of a fault still holds once `?` has carried it on.
use Rattle.std.proofs.Common.{◌≡◌, Result, MatchResult}
use Rattle.std.specs.Result.{IsErrAnd}
use Rattle.std.proofs.lemmas.Result.{err_from_is_err_and}

pub fault_passed_on : {A E : Type 0} {e : E} (r : Result A E) (P : A → Type 0) (Q : E → Type 0) → IsErrAnd r (λ x. x ≡ e) → Q e → MatchResult r P Q
fault_passed_on r P Q same holds = let p = err_from_is_err_and r same in rw (p.1, p.2) holds
