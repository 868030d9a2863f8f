-- The leg of a number, as an option and as a leg.
use Rattle.std.proofs.Common.{◌≡◌, ℕ, ◌<◌, ◌≤◌, List, length, Some, None, ⊎_elim, arith}
use Rattle.std.proofs.lemmas.Bool.{cases_lt}
use Rattle.std.proofs.lemmas.Option.{slice_get-get_or, slice_get_past}
use Rattle.chart.specs.declared.leg.Leg.{Leg}
use Rattle.chart.specs.Legs.{leg_get, leg_at, no_leg}

pub leg_get_there : (legs : List Leg) (k : ℕ) → k < length legs → leg_get legs k ≡ Some (leg_at legs k)
unfolding leg_get leg_at
leg_get_there legs k h = slice_get-get_or legs k no_leg h

pub leg_get_past : (legs : List Leg) (k : ℕ) → length legs ≤ k → leg_get legs k ≡ None
unfolding leg_get
leg_get_past legs k h = slice_get_past legs k h

pub leg_get_is_leg_at : (legs : List Leg) (k : ℕ) (leg : Leg) → k < length legs → Some leg ≡ leg_get legs k → leg ≡ leg_at legs k
leg_get_is_leg_at legs k leg h e = let t = leg_get_there legs k h in cc

pub leg_get_not_none : (legs : List Leg) (k : ℕ) → k < length legs → leg_get legs k ≡ None → ⊥
leg_get_not_none legs k h e = let t = leg_get_there legs k h in let z : ◌≡◌ {A = ℕ} 0 1 = cc in omega arith

-- a leg that was answered is the leg of its number
pub leg_get_some : (legs : List Leg) (k : ℕ) (leg : Leg) → Some leg ≡ leg_get legs k → (k < length legs) × (leg ≡ leg_at legs k)
leg_get_some legs k leg e =
    ⊎_elim
    (λ h. (h, leg_get_is_leg_at legs k leg h e))
    (λ h. let p = leg_get_past legs k h in let z : ◌≡◌ {A = ℕ} 0 1 = cc in absurd (omega arith))
    (cases_lt k (length legs))
