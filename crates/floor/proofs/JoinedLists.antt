-- Lists and chains that are put together of two parts.
use Rattle.std.proofs.Common.{ℕ, List, [], ◌∷◌, ◌++◌, sym, subst, arith}
use Rattle.chart.specs.declared.leg.Leg.{Leg}
use Rattle.chart.specs.Legs.{leg_at}
use Rattle.chart.specs.Routes.{Leads, IsIn, HasNoRepeats}
use Rattle.chart.proofs.Chains.{in_append_right, in_append}

pub parts_apart : (xs ys : List ℕ) (z : ℕ) → IsIn z xs → IsIn z ys → HasNoRepeats (xs ++ ys) → ⊥
parts_apart [] ys z i j d = i
parts_apart (x ∷ xs) ys z i j d = grind (arith, parts_apart xs ys z, in_append_right xs ys z)

pub no_repeats_right : (xs ys : List ℕ) → HasNoRepeats (xs ++ ys) → HasNoRepeats ys
no_repeats_right [] ys d = d
no_repeats_right (x ∷ xs) ys d = no_repeats_right xs ys d.1

pub no_repeats_append : (xs ys : List ℕ) → HasNoRepeats xs → HasNoRepeats ys → ((x : ℕ) → IsIn x xs → IsIn x ys → ⊥) → HasNoRepeats (xs ++ ys)
no_repeats_append [] ys d e n = e
no_repeats_append (x ∷ xs) ys d e n = grind (arith, no_repeats_append xs ys, in_append xs ys x)

pub leads_join : (legs : List Leg) (ks ms : List ℕ) (s z t : ℕ) → Leads legs s ks z → Leads legs z ms t → Leads legs s (ks ++ ms) t
leads_join legs [] ms s z t e l = subst (λ y. Leads legs y ms t) (sym e) l
leads_join legs (k ∷ ks) ms s z t h l = (h.0, leads_join legs ks ms (leg_at legs k).to z t h.1 l)
