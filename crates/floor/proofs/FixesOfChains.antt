-- The fixes that the legs of a chain leave and enter.
use Rattle.std.proofs.Common.{◌≡◌, ℕ, List, [], ◌∷◌, ◌∙◌, ⊎_elim, arith}
use Rattle.chart.specs.declared.leg.Leg.{Leg}
use Rattle.chart.specs.Legs.{leg_at}
use Rattle.chart.specs.Routes.{Leads, fixes_entered, fixes_of_chain, IsIn, HasNoRepeats}
use Rattle.regret.proofs.WorstChoice.{in_fixes_entered}

-- a fix that is entered is entered by one of the legs
pub entered_by : (legs : List Leg) (ks : List ℕ) (x : ℕ) → IsIn x (fixes_entered legs ks) → (k : ℕ) × IsIn k ks × (x ≡ (leg_at legs k).to)
entered_by legs [] x i = absurd i
entered_by legs (k ∷ ks) x i = grind (arith, entered_by legs ks x)

-- of the fixes that a chain meets, a leg leaves each but the end
pub left_by : (legs : List Leg) (ks : List ℕ) (s z x : ℕ) → Leads legs s ks z → IsIn x (fixes_of_chain legs s ks) → (x ≡ z → ⊥) → (k : ℕ) × IsIn k ks × (x ≡ (leg_at legs k).from)
left_by legs [] s z x l i n = absurd (⊎_elim (λ e. n (e ∙ l)) (λ j. j) i)
left_by legs (k ∷ ks) s z x l i n = grind (arith, left_by legs ks (leg_at legs k).to z x)

-- a fix that a leg leaves is met
pub left_in_chain : (legs : List Leg) (ks : List ℕ) (s z : ℕ) → Leads legs s ks z → (k : ℕ) → IsIn k ks → IsIn (leg_at legs k).from (fixes_of_chain legs s ks)
left_in_chain legs [] s z l k i = absurd i
left_in_chain legs (m ∷ ms) s z l k i = grind (arith, left_in_chain legs ms (leg_at legs m).to z l.1 k)

-- two legs of a chain enter different fixes
pub enters_no_fix_twice : (legs : List Leg) (ks : List ℕ) → HasNoRepeats (fixes_entered legs ks) → (k m : ℕ) → IsIn k ks → IsIn m ks → (leg_at legs k).to ≡ (leg_at legs m).to → k ≡ m
enters_no_fix_twice legs [] d k m i j e = absurd i
enters_no_fix_twice legs (x ∷ xs) d k m i j e = grind (arith, enters_no_fix_twice legs xs d.1 k m, in_fixes_entered legs xs)

-- and leave different fixes
pub leaves_no_fix_twice : (legs : List Leg) (ks : List ℕ) (s z : ℕ) → Leads legs s ks z → HasNoRepeats (fixes_of_chain legs s ks) → (k m : ℕ) → IsIn k ks → IsIn m ks → (leg_at legs k).from ≡ (leg_at legs m).from → k ≡ m
leaves_no_fix_twice legs [] s z l d k m i j e = absurd i
leaves_no_fix_twice legs (x ∷ xs) s z l d k m i j e = grind (arith, leaves_no_fix_twice legs xs (leg_at legs x).to z l.1 d.1 k m, left_in_chain legs xs (leg_at legs x).to z l.1)
