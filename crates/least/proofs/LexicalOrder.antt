-- The order of lists, and the order of routes by regret and list: of a regret before its list, as of one list.
use Rattle.std.proofs.Common.{◌≡◌, ℕ, ◌<◌, Bool, IsTrue, ◌↔◌, ◌⊎◌, List, [], ◌∷◌, ◌++◌, Some, MatchBool, sym, refl, ap, ◌∙◌, subst, inl, inr, arith}
use Rattle.std.specs.declared.cmp.Ordering.{Ordering}
use Rattle.std.specs.declared.cmp.Ordering.TheVariants.{Less, Equal, Greater}
use Rattle.std.specs.Ordering.{MatchOrdering, nat_cmp, ordering_then, is_lt, is_some_and}
use Rattle.std.specs.Cmp.Lexicographic.{slice_cmp, slice_partial_cmp, lists_agrees}
use Rattle.std.proofs.lemmas.Cmp.{ranked}
use Rattle.chart.specs.Routes.{LexBefore}
use Rattle.chart.specs.Regret.{IsPreferred}

not_lex_before_itself : (a : List ℕ) → LexBefore a a → ⊥
not_lex_before_itself [] p = p
not_lex_before_itself (x ∷ a) p = grind (arith, not_lex_before_itself a)

lex_before_trans : (a b c : List ℕ) → LexBefore a b → LexBefore b c → LexBefore a c
lex_before_trans [] [] c p q = absurd p
lex_before_trans [] (y ∷ b) [] p q = q
lex_before_trans [] (y ∷ b) (z ∷ c) p q = tt
lex_before_trans (x ∷ a) [] c p q = absurd p
lex_before_trans (x ∷ a) (y ∷ b) [] p q = q
lex_before_trans (x ∷ a) (y ∷ b) (z ∷ c) p q = grind (arith, lex_before_trans a b c)

pub preferred_trans : (x y z : ℕ) (a b c : List ℕ) → IsPreferred x a y b → IsPreferred y b z c → IsPreferred x a z c
preferred_trans x y z a b c = lex_before_trans (x ∷ a) (y ∷ b) (z ∷ c)

pub not_preferred_to_itself : (x : ℕ) (a : List ℕ) → IsPreferred x a x a → ⊥
not_preferred_to_itself x a = not_lex_before_itself (x ∷ a)

-- what comes before a list comes before every list that begins with it
pub lex_before_append : (a b c : List ℕ) → LexBefore a b → LexBefore a (b ++ c)
lex_before_append [] [] c h = absurd h
lex_before_append [] (y ∷ b) c h = tt
lex_before_append (x ∷ a) [] c h = absurd h
lex_before_append (x ∷ a) (y ∷ b) c h = grind (arith, lex_before_append a b c)

-- how std compares two lists
lex_before_of_cmp : (a b : List ℕ) → MatchOrdering (slice_cmp nat_cmp a b) (LexBefore a b) (b ≡ a) (LexBefore b a)
lex_before_of_cmp [] [] = refl
lex_before_of_cmp [] (y ∷ b) = tt
lex_before_of_cmp (x ∷ a) [] = tt
lex_before_of_cmp (x ∷ a) (y ∷ b) = first (nat_cmp x y) (ranked x y (nat_cmp x y) refl) (slice_cmp nat_cmp a b) (lex_before_of_cmp a b)
  where
    first : (o : Ordering) → MatchOrdering o (x < y) (x ≡ y) (y < x) → (r : Ordering) → MatchOrdering r (LexBefore a b) (b ≡ a) (LexBefore b a) → MatchOrdering (ordering_then o r) (LexBefore (x ∷ a) (y ∷ b)) (y ∷ b ≡ x ∷ a) (LexBefore (y ∷ b) (x ∷ a))
    first Less lt r h = inl lt
    first Greater gt r h = inl gt
    first Equal e Less h = inr (e, h)
    first Equal e Equal h = cc
    first Equal e Greater h = inr (sym e, h)

-- what holds of a test by `<` of two regrets with their lists, from how std compares them
by_order : (x : ℕ) (p : List ℕ) (y : ℕ) (q : List ℕ) (r : Bool) → r ≡ is_some_and is_lt (slice_partial_cmp (λ a b. Some (nat_cmp a b)) (x ∷ p) (y ∷ q)) → (P : Bool → Type 0) → ((o : Ordering) → MatchOrdering o (IsPreferred x p y q) (y ∷ q ≡ x ∷ p) (IsPreferred y q x p) → P (is_lt o)) → P r
by_order x p y q r e P told =
    let f : r ≡ is_lt (slice_cmp nat_cmp (x ∷ p) (y ∷ q)) = e ∙ ap (λ o. is_some_and is_lt o) (lists_agrees {R = nat_cmp} (λ a b. refl) (x ∷ p) (y ∷ q)) in
    subst P (sym f) (told (slice_cmp nat_cmp (x ∷ p) (y ∷ q)) (lex_before_of_cmp (x ∷ p) (y ∷ q)))

-- what the test tells
pub preferred_told : (x : ℕ) (p : List ℕ) (y : ℕ) (q : List ℕ) (r : Bool) → r ≡ is_some_and is_lt (slice_partial_cmp (λ a b. Some (nat_cmp a b)) (x ∷ p) (y ∷ q)) → MatchBool r (IsPreferred x p y q) ((q ≡ p) ⊎ IsPreferred y q x p)
preferred_told x p y q r e = by_order x p y q r e (λ b. MatchBool b (IsPreferred x p y q) ((q ≡ p) ⊎ IsPreferred y q x p)) told
  where
    told : (o : Ordering) → MatchOrdering o (IsPreferred x p y q) (y ∷ q ≡ x ∷ p) (IsPreferred y q x p) → MatchBool (is_lt o) (IsPreferred x p y q) ((q ≡ p) ⊎ IsPreferred y q x p)
    told Less h = h
    told Equal h = inl (cc)
    told Greater h = inr h

-- and it is true just where the order says so
pub preferred_if_told : (x : ℕ) (p : List ℕ) (y : ℕ) (q : List ℕ) (r : Bool) → r ≡ is_some_and is_lt (slice_partial_cmp (λ a b. Some (nat_cmp a b)) (x ∷ p) (y ∷ q)) → IsTrue r ↔ IsPreferred x p y q
preferred_if_told x p y q r e = by_order x p y q r e (λ b. IsTrue b ↔ IsPreferred x p y q) told
  where
    told : (o : Ordering) → MatchOrdering o (IsPreferred x p y q) (y ∷ q ≡ x ∷ p) (IsPreferred y q x p) → IsTrue (is_lt o) ↔ IsPreferred x p y q
    told Less h = (λ _. h, λ _. refl)
    told Equal h = (λ no. cc, λ first. absurd (not_lex_before_itself (x ∷ p) (subst (λ l. LexBefore (x ∷ p) l) h first)))
    told Greater h = (λ no. cc, λ first. absurd (not_lex_before_itself (x ∷ p) (lex_before_trans (x ∷ p) (y ∷ q) (x ∷ p) first h)))
