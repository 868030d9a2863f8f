-- What comes after the names and legs of a file, of which there is one at most;
-- and nothing ends where one more record stands.
use Rattle.std.proofs.Common.{◌≡◌, ℕ, ◌+◌, ◌<◌, List, [], ◌++◌, length, sym, refl, ap, ◌∙◌, subst, arith}
use Rattle.std.proofs.lemmas.List.{append_cancel_left}
use Rattle.chart.specs.declared.row.Row.{Row}
use Rattle.chart_format.specs.Format.{Name, end_bytes, file_prefix, mark_length}
use Rattle.chart_format.specs.Checks.{IsFirstFailure, Pass, fix_checks, leg_checks, end_checks, after_checks}
use Rattle.chart_format.proofs.BytesPass.{first_failure_is_one, passing_never_fails, end_bytes_pass}

-- what a file comes to: a chart, or the fault x at the place p
pub data Verdict : Type 0 where
  accepted : Verdict
  refused : (x p : ℕ) → Verdict

-- what comes at the place q, where the end's record is due
pub data ClosesAs (q : ℕ) (rest : List ℕ) : Verdict → Type 0 where
  end_fails : {x p : ℕ} → p ≡ q → IsFirstFailure (end_checks rest) x → ClosesAs q rest (refused x p)
  goes_on : {x p : ℕ} (r : List ℕ) → p ≡ q + mark_length → rest ≡ end_bytes ++ r → IsFirstFailure (after_checks r) x → ClosesAs q rest (refused x p)
  done : rest ≡ end_bytes → ClosesAs q rest accepted

-- what comes after these names and legs
pub data EndsAs (n m : ℕ) (names : List Name) (legs : List Row) (rest : List ℕ) : Verdict → Type 0 where
  fix_fails : {x p : ℕ} → p ≡ length (file_prefix n m names legs) → length names < n → IsFirstFailure (fix_checks names rest) x → EndsAs n m names legs rest (refused x p)
  leg_fails : {x p : ℕ} → p ≡ length (file_prefix n m names legs) → length names ≡ n → length legs < m → IsFirstFailure (leg_checks n rest) x → EndsAs n m names legs rest (refused x p)
  closes : {o : Verdict} → length names ≡ n → length legs ≡ m → ClosesAs (length (file_prefix n m names legs)) rest o → EndsAs n m names legs rest o

refused_same : {x y p q r : ℕ} → x ≡ y → p ≡ r → q ≡ r → refused x p ≡ refused y q
refused_same e f g = cc

module _ {rest : List ℕ} where
  -- the end's record has no fault where it stands
  end_never_fails : (r : List ℕ) (x : ℕ) → rest ≡ end_bytes ++ r → IsFirstFailure (end_checks rest) x → ⊥
  end_never_fails r x e f = passing_never_fails (end_checks rest) x f (subst (λ t. Pass (end_checks t)) (sym e) (end_bytes_pass r))

  -- and nothing goes on where it stands alone
  alone_never_goes_on : (r : List ℕ) (x : ℕ) → rest ≡ end_bytes ++ r → rest ≡ end_bytes → IsFirstFailure (after_checks r) x → ⊥
  alone_never_goes_on r x e e' f =
      let l : length (end_bytes ++ r) ≡ 2 = ap length (sym e ∙ e') in
      passing_never_fails (after_checks r) x f (omega arith, tt)

  closing_is_one : {q : ℕ} {o p : Verdict} → ClosesAs q rest o → ClosesAs q rest p → o ≡ p
  closing_is_one (end_fails a f) (end_fails b g) = refused_same (first_failure_is_one (end_checks rest) _ _ f g) a b
  closing_is_one (end_fails a f) (goes_on r b e g) = absurd (end_never_fails r _ e f)
  closing_is_one (end_fails a f) (done e) = absurd (end_never_fails [] _ e f)
  closing_is_one (goes_on r a e f) (end_fails b g) = absurd (end_never_fails r _ e g)
  closing_is_one (goes_on {x = x} r a e f) (goes_on s b e' g) =
      let rs : r ≡ s = append_cancel_left end_bytes r s (sym e ∙ e') in
      refused_same (first_failure_is_one (after_checks s) _ _ (subst (λ t. IsFirstFailure (after_checks t) x) rs f) g) a b
  closing_is_one (goes_on r a e f) (done e') = absurd (alone_never_goes_on r _ e e' f)
  closing_is_one (done e) (end_fails b g) = absurd (end_never_fails [] _ e g)
  closing_is_one (done e) (goes_on r b e' g) = absurd (alone_never_goes_on r _ e' e g)
  closing_is_one (done e) (done e') = refl

module _ {n m : ℕ} {names : List Name} {legs : List Row} {rest : List ℕ} where
  pub ending_is_one : {o p : Verdict} → EndsAs n m names legs rest o → EndsAs n m names legs rest p → o ≡ p
  ending_is_one (fix_fails a c f) (fix_fails b d g) = refused_same (first_failure_is_one (fix_checks names rest) _ _ f g) a b
  ending_is_one (fix_fails a c f) (leg_fails b d e g) = absurd (omega arith)
  ending_is_one (fix_fails a c f) (closes b d g) = absurd (omega arith)
  ending_is_one (leg_fails a c e f) (fix_fails b d g) = absurd (omega arith)
  ending_is_one (leg_fails a c e f) (leg_fails b d h g) = refused_same (first_failure_is_one (leg_checks n rest) _ _ f g) a b
  ending_is_one (leg_fails a c e f) (closes b d g) = absurd (omega arith)
  ending_is_one (closes a c f) (fix_fails b d g) = absurd (omega arith)
  ending_is_one (closes a c f) (leg_fails b d e g) = absurd (omega arith)
  ending_is_one (closes a c f) (closes b d g) = closing_is_one f g

  -- where one more name stands, nothing ends
  pub no_end_at_name : {o : Verdict} → EndsAs n m names legs rest o → length names < n → Pass (fix_checks names rest) → ⊥
  no_end_at_name (fix_fails a c f) lt pass = passing_never_fails (fix_checks names rest) _ f pass
  no_end_at_name (leg_fails a c e f) lt pass = omega arith
  no_end_at_name (closes a c f) lt pass = omega arith

  -- nor where one more leg stands
  pub no_end_at_leg : {o : Verdict} → EndsAs n m names legs rest o → length names ≡ n → length legs < m → Pass (leg_checks n rest) → ⊥
  no_end_at_leg (fix_fails a c f) all lt pass = omega arith
  no_end_at_leg (leg_fails a c e f) all lt pass = passing_never_fails (leg_checks n rest) _ f pass
  no_end_at_leg (closes a c f) all lt pass = omega arith
