-- The words of a text exist: its characters cut into them, with no call.
use Rattle.std.proofs.Common.{◌≡◌, refl, sym, ap, ◌∙◌, ℕ, zero, suc, ◌≤◌, Bool, true, List, [], ◌∷◌, ◌++◌, length, arith, ⊎_elim}
use Rattle.std.specs.Prelude.{⊤, Some}
use Rattle.std.specs.Borrow.{Bor}
use Rattle.std.specs.Iterator.{Drains}
use Rattle.std.specs.Char.{is_whitespace, is_not_whitespace}
use Rattle.std.specs.Str.{IsUtf8, NonePass, EmptyOrStartsWithPassing}
use Rattle.std.specs.Str.Iter.{split_whitespace_rest, split_whitespace_steps}
use Rattle.std.specs.declared.str.SplitWhitespace.{SplitWhitespace}
use Rattle.std.proofs.Math.Utf8.{encode, encodes, scalar, scalars}
use Rattle.std.proofs.lemmas.Bool.{cases_Bool, and_parts, not-true}
use Rattle.std.proofs.lemmas.List.{append_assoc, append-nil, length-append}
use Rattle.std.proofs.lemmas.Str.{cons_from_encodes, encodes-append, length-le-encodes}
use Rattle.protocol.specs.Lines.{IsWordsOf, Words}
use Rattle.protocol.proofs.Parts.{words_from_first}

-- the list is empty, or its first character passes p
abbrev StartsPassing : (ℕ → Bool) → List ℕ → Type 0
StartsPassing p [] = ⊤
StartsPassing p (c ∷ cs) = p c ≡ true

-- the characters up to the first that passes p, and the others
record Spans (p : ℕ → Bool) (cs : List ℕ) : Type 0 where
  front : List ℕ
  back : List ℕ
  is : cs ≡ front ++ back
  none : NonePass p front
  starts : StartsPassing p back

spans : (p : ℕ → Bool) (cs : List ℕ) → Spans p cs
spans p [] = record { front = []; back = []; is = refl; none = tt; starts = tt }
spans p (c ∷ cs) =
    ⊎_elim
    (λ yes. record { front = []; back = c ∷ cs; is = refl; none = tt; starts = yes })
    (λ no. let s = spans p cs in
    record { front = c ∷ s.front; back = s.back; is = ap (λ l. c ∷ l) s.is; none = (no, s.none); starts = s.starts })
    (cases_Bool (p c))

scalars_back : (xs ys : List ℕ) → scalars (xs ++ ys) ≡ true → scalars ys ≡ true
scalars_back [] ys all = all
scalars_back (x ∷ xs) ys all = scalars_back xs ys (and_parts (scalar x) (scalars (xs ++ ys)) all).1

starts_text : (p : ℕ → Bool) (cs : List ℕ) → scalars cs ≡ true → StartsPassing p cs → (more : List ℕ) × EmptyOrStartsWithPassing p (encodes cs) more
starts_text p [] all starts = ([], λ some. absurd (omega (arith, some)))
starts_text p (c ∷ cs) all starts = (encodes cs, λ some. (c, starts, refl, (and_parts (scalar c) (scalars cs) all).0))

abbrev HasWords : SplitWhitespace → Type 0
HasWords s = (words : Words) × Drains split_whitespace_steps s words

-- the rest after some characters of an encoding is an encoding
rest_encodes : (xs cs rest : List ℕ) → encodes cs ≡ encodes xs ++ rest → (es : List ℕ) × (cs ≡ xs ++ es) × (encodes es ≡ rest)
rest_encodes [] cs rest is = (cs, refl, is)
rest_encodes (x ∷ xs) cs rest is =
    let k = cons_from_encodes cs (encodes xs ++ rest) x (is ∙ append_assoc (encode x) (encodes xs) rest) in
    let m = rest_encodes xs k.0 rest k.2 in
    (m.0, k.1 ∙ ap (λ l. x ∷ l) m.1, m.2)

-- a reference to a text, at no place of note
abbrev bare : List ℕ → Bor (List ℕ)
bare bs = record { ref_ptr = (0, 0); now = bs }

at_end : (cs : List ℕ) (s : SplitWhitespace) → NonePass is_not_whitespace cs → encodes cs ≡ split_whitespace_rest s → HasWords s
at_end cs s none is = ([], (s, (s, refl, (refl, (cs, is, none)))))

-- all words from a gap on, where those after the first word are known
from_gap : (n : ℕ) → ((ds : List ℕ) (t : SplitWhitespace) → length ds ≤ n → scalars ds ≡ true → encodes ds ≡ split_whitespace_rest t → HasWords t)
    → (s : SplitWhitespace) (gap ys : List ℕ) → NonePass is_not_whitespace gap → StartsPassing is_not_whitespace ys
    → length ys ≤ suc n → scalars ys ≡ true → encodes (gap ++ ys) ≡ split_whitespace_rest s → HasWords s
from_gap n later s gap [] none starts few all is = at_end gap s none (ap encodes (sym (append-nil gap)) ∙ is)
from_gap n later s gap (y ∷ ys) none starts few all is =
    let w = spans is_whitespace ys in
    let left : scalars w.back ≡ true = scalars_back w.front w.back (ap scalars (sym w.is) ∙ (and_parts (scalar y) (scalars ys) all).1) in
    let t : SplitWhitespace = record { rest = bare (encodes w.back) } in
    let shorter : length w.back ≤ n = omega (arith, few, ap length w.is, length-append w.front w.back) in
    let (words, (u, (v, yields, ends))) = later w.back t shorter left refl in
    let parts : encodes (y ∷ ys) ≡ encodes (y ∷ w.front) ++ encodes w.back = ap (λ l. encodes (y ∷ l)) w.is ∙ encodes-append (y ∷ w.front) w.back in
    let cut : split_whitespace_rest s ≡ encodes gap ++ (encodes (y ∷ w.front) ++ encodes w.back) =
    sym is ∙ encodes-append gap (y ∷ ys) ∙ ap (λ l. encodes gap ++ l) parts in
    let step : split_whitespace_steps s (Some (bare (encodes (y ∷ w.front)))) t =
    (encodes gap, cut, omega (arith, length-le-encodes (y ∷ w.front)), (gap, refl, none), (y ∷ w.front, refl, (not-true _ starts, w.none)), starts_text is_whitespace w.back left w.starts) in
    (bare (encodes (y ∷ w.front)) ∷ words, (u, (v, (t, step, yields), ends)))

words_within : (n : ℕ) (cs : List ℕ) (s : SplitWhitespace) → length cs ≤ n → scalars cs ≡ true → encodes cs ≡ split_whitespace_rest s → HasWords s
words_within zero [] s few all is = at_end [] s tt is
words_within zero (c ∷ cs) s few all is = absurd (omega (arith, few))
words_within (suc n) cs s few all is =
    let g = spans is_not_whitespace cs in
    from_gap n (words_within n) s g.front g.back g.none g.starts
    (omega (arith, few, ap length g.is, length-append g.front g.back)) (scalars_back g.front g.back (ap scalars (sym g.is) ∙ all))
    (ap encodes (sym g.is) ∙ is)

-- the words of an encoding are there to be given
pub words_exist : (cs : List ℕ) (s : SplitWhitespace) → scalars cs ≡ true → encodes cs ≡ split_whitespace_rest s
    → (words : Words) × Drains split_whitespace_steps s words
words_exist cs s all is = words_within (length cs) cs s (omega arith) all is

-- the words of a text, of which the first is known
pub words_after_first : (text : List ℕ) (s t : SplitWhitespace) (first : Bor (List ℕ)) → IsUtf8 text → split_whitespace_rest s ≡ text
    → split_whitespace_steps s (Some first) t → (rest : Words) × IsWordsOf text (first ∷ rest)
words_after_first text s t first (cs, (all, spells)) is (gap, parts, some, (gs, gs_is, gs_none), (xs, xs_is, xs_none), starts) =
    let behind = rest_encodes gs cs (first.now ++ split_whitespace_rest t) (spells ∙ sym is ∙ parts ∙ ap (λ l. l ++ (first.now ++ split_whitespace_rest t)) (sym gs_is)) in
    let after = rest_encodes xs behind.0 (split_whitespace_rest t) (behind.2 ∙ ap (λ l. l ++ split_whitespace_rest t) (sym xs_is)) in
    let left = scalars_back xs after.0 (ap scalars (sym after.1) ∙ scalars_back gs behind.0 (ap scalars (sym behind.1) ∙ all)) in
    let (rest, drains) = words_exist after.0 t left after.2 in
    let step : split_whitespace_steps s (Some first) t = (gap, parts, some, (gs, gs_is, gs_none), (xs, xs_is, xs_none), starts) in
    (rest, words_from_first text s t first rest is step drains)
