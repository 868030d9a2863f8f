-- The proof that the kind which avoids used fixes keeps the laws of kinds: the kind itself cites it.
use Rattle.std.specs.Prelude.{◌≡◌, ℕ, Bool, true, false, ◌⊎◌, List, Some, None, Option, slice_index_or, refl}
use Rattle.std.proofs.Common.{ap, inl, inr, arith}
use Rattle.std.proofs.Math.Decide.{dec_le}
use Rattle.chart.specs.Kinds.{Laws}
use Rattle.floor.specs.internal.Avoid.{add_off, order_off, avoid_rule}

compares_off : (a b : Option ℕ) → order_off a b ⊎ order_off b a
compares_off None None = inl tt
compares_off (Some a) None = inl tt
compares_off None (Some b) = inr tt
compares_off (Some a) (Some b) = elim (dec_le a b) [ yes p ↦ inl p | no n ↦ inr (omega arith) ]

transitive_off : (a b c : Option ℕ) → order_off a b → order_off b c → order_off a c
transitive_off None None None p q = tt
transitive_off None None (Some c) p q = q
transitive_off None (Some b) c p q = absurd p
transitive_off (Some a) None None p q = tt
transitive_off (Some a) None (Some c) p q = absurd q
transitive_off (Some a) (Some b) None p q = tt
transitive_off (Some a) (Some b) (Some c) p q = omega arith

antisymmetric_off : (a b : Option ℕ) → order_off a b → order_off b a → a ≡ b
antisymmetric_off None None p q = refl
antisymmetric_off None (Some b) p q = absurd p
antisymmetric_off (Some a) None p q = absurd q
antisymmetric_off (Some a) (Some b) p q = let e : a ≡ b = omega arith in ap Some e

monotone_off : (u : Bool) (h : ℕ) (a b : Option ℕ) → order_off a b → order_off (add_off u h a) (add_off u h b)
monotone_off true h a b p = tt
monotone_off false h None None p = tt
monotone_off false h None (Some b) p = p
monotone_off false h (Some a) None p = tt
monotone_off false h (Some a) (Some b) p = omega arith

inflationary_off : (u : Bool) (h : ℕ) (a : Option ℕ) → order_off a (add_off u h a)
inflationary_off true h None = tt
inflationary_off true h (Some a) = tt
inflationary_off false h None = tt
inflationary_off false h (Some a) = omega arith

pub avoid_laws : (used : List Bool) → Laws (avoid_rule used)
avoid_laws used = record {
  compares = compares_off;
  transitive = transitive_off;
  antisymmetric = antisymmetric_off;
  add_monotone = λ a b k l p. monotone_off (slice_index_or used l.to false) l.high a b p;
  add_inflationary = λ a k l. inflationary_off (slice_index_or used l.to false) l.high a;
}
