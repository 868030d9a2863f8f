-- The first check that fails is one, and none fails on the bytes of a record
-- that is as it should be.
use Rattle.std.proofs.Common.{◌≡◌, ℕ, ◌≤◌, List, [], ◌∷◌, ◌++◌, length, take, sym, refl, ◌∙◌, subst, inl, inr, arith, length-append}
use Rattle.std.proofs.lemmas.List.{take_at}
use Rattle.chart.specs.declared.row.Row.{Row}
use Rattle.chart.specs.declared.row.Standing.TheVariants.{Open}
use Rattle.chart.specs.Rows.{HasValidCounts, HasValidTimes, HasValidFixes, IsValidRow}
use Rattle.chart_format.specs.declared.record.RecordKind.TheVariants.{Chart, Fix, Leg, End}
use Rattle.chart_format.specs.Format.{Name, IsName, IsUnused, fix_bytes, leg_bytes, end_bytes, file_prefix}
use Rattle.chart_format.specs.Checks.{Check, ◌fails_unless◌, IsFirstFailure, Pass, body, leg_in, chart_checks, fix_checks, leg_checks, end_checks}
use Rattle.chart_format.proofs.LegReadBack.{two_bytes_read_back, leg_read_back}

pub first_failure_is_one : (cs : List Check) (x y : ℕ) → IsFirstFailure cs x → IsFirstFailure cs y → x ≡ y
first_failure_is_one [] x y f g = absurd f
first_failure_is_one ((k fails_unless P) ∷ cs) x y (inl f) (inl g) = f.1 ∙ sym g.1
first_failure_is_one ((k fails_unless P) ∷ cs) x y (inl f) (inr g) = absurd (f.0 g.0)
first_failure_is_one ((k fails_unless P) ∷ cs) x y (inr f) (inl g) = absurd (g.0 f.0)
first_failure_is_one ((k fails_unless P) ∷ cs) x y (inr f) (inr g) = first_failure_is_one cs x y f.1 g.1

pub passing_never_fails : (cs : List Check) (x : ℕ) → IsFirstFailure cs x → Pass cs → ⊥
passing_never_fails [] x f p = f
passing_never_fails ((k fails_unless P) ∷ cs) x (inl f) p = f.0 p.0
passing_never_fails ((k fails_unless P) ∷ cs) x (inr f) p = passing_never_fails cs x f.1 p.1

pub chart_bytes_pass : (room n m : ℕ) (names : List Name) (legs : List Row) (r : List ℕ) → HasValidCounts n m → m ≤ room → Pass (chart_checks room (file_prefix n m names legs ++ r))
unfolding file_prefix
chart_bytes_pass room n m names legs r counted fits =
    let back = two_bytes_read_back m in
    (omega arith, ((Chart, refl), (refl, (omega arith, (subst (HasValidCounts n) (sym back) counted, (omega arith, tt))))))

pub fix_bytes_pass : (names : List Name) (x : Name) (r : List ℕ) → IsName x → IsUnused names x → Pass (fix_checks names (fix_bytes x ++ r))
fix_bytes_pass names x r named unused =
    let la = length-append x r in
    let e : take (length x) (x ++ r) ≡ x = take_at x r (length x) refl in
    (omega arith, ((Fix, refl), (refl, ((omega arith, omega arith), (subst IsName (sym e) named, (subst (IsUnused names) (sym e) unused, tt))))))

pub leg_bytes_pass : (n : ℕ) (leg : Row) (r : List ℕ) → IsValidRow n leg → leg.standing ≡ Open → Pass (leg_checks n (leg_bytes leg ++ r))
leg_bytes_pass n leg r sound is_open =
    let e : leg_in (body (leg_bytes leg ++ r)) ≡ leg = leg_read_back leg is_open r in
    (omega arith, ((Leg, refl), (refl, (omega arith, (subst HasValidTimes (sym e) sound.valid_times, (subst (HasValidFixes n) (sym e) sound.valid_fixes, tt))))))

pub end_bytes_pass : (r : List ℕ) → Pass (end_checks (end_bytes ++ r))
end_bytes_pass r = (omega arith, ((End, refl), (refl, tt)))
