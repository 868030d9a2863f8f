-- Two ways to read the same bytes as items, each in its own bytes, and a rest: they are the same,
-- or one goes on with an item where the other ends.
use Rattle.std.proofs.Common.{◌≡◌, ℕ, suc, ◌<◌, List, [], ◌∷◌, ◌++◌, length, get_or, sym, refl, ap, ◌∙◌, append_assoc, arith}
use Rattle.std.specs.List.{flat_map}

-- the items xs go on where ys end and the rest s begins
pub record Longer {A : Type 0} (enc : A → List ℕ) (xs ys : List A) (s : List ℕ) : Type 0 where
  pub item : A
  pub more : List A
  pub after : List ℕ
  pub items : xs ≡ ys ++ item ∷ more
  pub bytes : s ≡ enc item ++ after

pub data SameOrLonger {A : Type 0} (enc : A → List ℕ) (xs ys : List A) (r s : List ℕ) : Type 0 where
  same : xs ≡ ys → r ≡ s → SameOrLonger enc xs ys r s
  left : Longer enc xs ys s → SameOrLonger enc xs ys r s
  right : Longer enc ys xs r → SameOrLonger enc xs ys r s

module _ {A : Type 0} (enc : A → List ℕ) where
  longer_after : (a b : A) (xs ys : List A) (s : List ℕ) → a ≡ b → Longer enc xs ys s → Longer enc (a ∷ xs) (b ∷ ys) s
  longer_after a b xs ys s e l = record { item = l.item; more = l.more; after = l.after; items = ap (λ x. x ∷ xs) e ∙ ap (λ zs. b ∷ zs) l.items; bytes = l.bytes }

  same_or_longer_after : (a b : A) (xs ys : List A) (r s : List ℕ) → a ≡ b → SameOrLonger enc xs ys r s → SameOrLonger enc (a ∷ xs) (b ∷ ys) r s
  same_or_longer_after a b xs ys r s e (same p q) = same (ap (λ x. x ∷ xs) e ∙ ap (λ zs. b ∷ zs) p) q
  same_or_longer_after a b xs ys r s e (left l) = left (longer_after a b xs ys s e l)
  same_or_longer_after a b xs ys r s e (right l) = right (longer_after b a ys xs r (sym e) l)

-- the items are fine, and of fine items none has bytes that another's go on from
module _ {A : Type 0} (enc : A → List ℕ) (Fine : A → Type 0) (d : A)
    (prefix_free : (a b : A) → Fine a → Fine b → (x y : List ℕ) → enc a ++ x ≡ enc b ++ y → (a ≡ b) × (x ≡ y)) where
  abbrev AllFine : List A → Type 0
  AllFine xs = (k : ℕ) → k < length xs → Fine (get_or xs k d)

  pub same_or_longer : (xs ys : List A) (r s : List ℕ) → AllFine xs → AllFine ys → flat_map enc xs ++ r ≡ flat_map enc ys ++ s → SameOrLonger enc xs ys r s
  same_or_longer [] [] r s f g e = same refl e
  same_or_longer [] (b ∷ ys) r s f g e = right (record { item = b; more = ys; after = flat_map enc ys ++ s; items = refl; bytes = e ∙ append_assoc (enc b) (flat_map enc ys) s })
  same_or_longer (a ∷ xs) [] r s f g e = left (record { item = a; more = xs; after = flat_map enc xs ++ r; items = refl; bytes = sym e ∙ append_assoc (enc a) (flat_map enc xs) r })
  same_or_longer (a ∷ xs) (b ∷ ys) r s f g e =
      let both = prefix_free a b (f 0 (omega arith)) (g 0 (omega arith)) (flat_map enc xs ++ r) (flat_map enc ys ++ s)
      (sym (append_assoc (enc a) (flat_map enc xs) r) ∙ e ∙ append_assoc (enc b) (flat_map enc ys) s) in
      same_or_longer_after enc a b xs ys r s both.0 (same_or_longer xs ys r s (λ k h. f (suc k) (omega arith)) (λ k h. g (suc k) (omega arith)) both.1)
