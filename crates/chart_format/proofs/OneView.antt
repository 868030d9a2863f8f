-- How a file begins, with valid names and legs, and what it comes to after them:
-- any two such views of one file are the same.
use Rattle.std.proofs.Common.{◌≡◌, ℕ, ◌+◌, ◌/◌, ◌%◌, ◌<◌, ◌⊎◌, List, [], ◌∷◌, ◌++◌, length, get_or, take, drop, sym, refl, ap, ◌∙◌, subst, subst₂, append_assoc, arith, length-append}
use Rattle.std.specs.List.{flat_map}
use Rattle.std.proofs.lemmas.List.{take_at, drop_at, get_or_at, get_or_append_left, nil_from_length}
use Rattle.chart.specs.declared.row.Row.{Row}
use Rattle.chart.specs.declared.row.Standing.TheVariants.{Open}
use Rattle.chart.specs.Rows.{no_row, IsValidRow}
use Rattle.chart_format.specs.Format.{Name, IsName, IsUnused, IsChartPrefix, fix_bytes, leg_bytes, file_prefix, chart_record_length, leg_record_length, name_offset}
use Rattle.chart_format.specs.Checks.{Pass, body, leg_in, fix_checks, leg_checks}
use Rattle.chart_format.proofs.LegReadBack.{leg_read_back}
use Rattle.chart_format.proofs.SameOrLonger.{Longer, SameOrLonger, same, left, right, same_or_longer}
use Rattle.chart_format.proofs.BytesPass.{fix_bytes_pass, leg_bytes_pass}
use Rattle.chart_format.proofs.OneEnding.{Verdict, EndsAs, ending_is_one, no_end_at_name, no_end_at_leg}

-- the file begins with these names and legs, with legs only after all names
pub record View (file : List ℕ) (n m : ℕ) (names : List Name) (legs : List Row) (rest : List ℕ) (o : Verdict) : Type 0 where
  pub bytes : file ≡ file_prefix n m names legs ++ rest
  pub valid : IsChartPrefix n m names legs
  pub names_first : (length names ≡ n) ⊎ (length legs ≡ 0)
  pub ends : EndsAs n m names legs rest o

pub record SameView (xs ys : List Name) (ks ls : List Row) (o p : Verdict) : Type 0 where
  pub names : xs ≡ ys
  pub legs : ks ≡ ls
  pub outcomes : o ≡ p

-- a view never goes on with a name, or with a leg, where another ends
module _ {file : List ℕ} {n m : ℕ} {ks ls : List Row} {r s : List ℕ} {o p : Verdict} where
  no_more_names : {xs ys : List Name} → View file n m xs ks r o → View file n m ys ls s p → Longer fix_bytes xs ys (flat_map leg_bytes ls ++ s) → ⊥
  no_more_names {xs = xs} {ys = ys} v w more = no_end_at_name w.ends lt (subst (λ t. Pass (fix_checks ys t)) (sym left_of_names) (fix_bytes_pass ys x more.after named unused))
    where
      x : Name
      x = more.item

      longer : length xs ≡ length ys + (1 + length more.more)
      longer = ap length more.items ∙ simp length-append (omega arith)

      lt : length ys < n
      lt = omega (arith, longer, v.valid.names_fit)

      left_of_names : s ≡ fix_bytes x ++ more.after
      left_of_names = ap (λ zs. flat_map leg_bytes zs ++ s) (sym (nil_from_length ls (omega (arith, lt, w.names_first)))) ∙ more.bytes

      in_xs : (i : ℕ) → i < length ys → get_or xs i [] ≡ get_or ys i []
      in_xs i h = ap (λ zs. get_or zs i []) more.items ∙ get_or_append_left ys (x ∷ more.more) [] i h

      there : get_or xs (length ys) [] ≡ x
      there = ap (λ zs. get_or zs (length ys) []) more.items ∙ get_or_at ys x more.more [] (length ys) refl

      named : IsName x
      named = subst IsName there (v.valid.names_valid (length ys) (omega (arith, longer)))

      unused : IsUnused ys x
      unused i h e = v.valid.names_distinct i (length ys) h (omega (arith, longer)) (in_xs i h ∙ e ∙ sym there)

  no_more_legs : {names : List Name} → View file n m names ks r o → View file n m names ls s p → Longer leg_bytes ks ls s → ⊥
  no_more_legs {names = names} v w more =
      no_end_at_leg w.ends all (omega (arith, longer, v.valid.legs_fit)) (subst (λ t. Pass (leg_checks n t)) (sym more.bytes) (leg_bytes_pass n x more.after sound is_open))
    where
      x : Row
      x = more.item

      longer : length ks ≡ length ls + (1 + length more.more)
      longer = ap length more.items ∙ simp length-append (omega arith)

      all : length names ≡ n
      all = omega (arith, longer, v.names_first)

      there : get_or ks (length ls) no_row ≡ x
      there = ap (λ zs. get_or zs (length ls) no_row) more.items ∙ get_or_at ls x more.more no_row (length ls) refl

      sound : IsValidRow n x
      sound = subst (IsValidRow n) there (v.valid.rows_valid (length ls) (omega (arith, longer)))

      is_open : x.standing ≡ Open
      is_open = ap (λ (z : Row). z.standing) (sym there) ∙ v.valid.legs_open (length ls) (omega (arith, longer))

-- the bytes of a record say where it ends
fix_is_one : (a b : Name) (x y : List ℕ) → fix_bytes a ++ x ≡ fix_bytes b ++ y → (a ≡ b) × (x ≡ y)
fix_is_one a b x y e =
    let long : length a ≡ length b = ap (λ zs. get_or zs 2 0) e in
    let rest : a ++ x ≡ b ++ y = ap (λ zs. drop name_offset zs) e in (
      sym (take_at a x (length a) refl) ∙ ap (take (length a)) rest ∙ take_at b y (length a) (sym long),
      sym (drop_at a x (length a) refl) ∙ ap (drop (length a)) rest ∙ drop_at b y (length a) (sym long),
    )

leg_is_one : (a b : Row) → a.standing ≡ Open → b.standing ≡ Open → (x y : List ℕ) → leg_bytes a ++ x ≡ leg_bytes b ++ y → (a ≡ b) × (x ≡ y)
leg_is_one a b p q x y e = (sym (leg_read_back a p x) ∙ ap (λ zs. leg_in (body zs)) e ∙ leg_read_back b q y, ap (λ zs. drop leg_record_length zs) e)

-- and those of the chart's record how many fixes and legs there are
counts_are_one : (n n' m m' : ℕ) (xs ys : List Name) (ks ls : List Row) (r s : List ℕ) → file_prefix n m xs ks ++ r ≡ file_prefix n' m' ys ls ++ s → (n ≡ n') × (m ≡ m')
unfolding file_prefix
counts_are_one n n' m m' xs ys ks ls r s e =
    let high : m / 256 ≡ m' / 256 = ap (λ zs. get_or zs 3 0) e in
    let low : m % 256 ≡ m' % 256 = ap (λ zs. get_or zs 4 0) e in
    (ap (λ zs. get_or zs 2 0) e, omega arith)

names_and_legs_same : (n m : ℕ) (xs ys : List Name) (ks ls : List Row) (r s : List ℕ) → file_prefix n m xs ks ++ r ≡ file_prefix n m ys ls ++ s →
    flat_map fix_bytes xs ++ (flat_map leg_bytes ks ++ r) ≡ flat_map fix_bytes ys ++ (flat_map leg_bytes ls ++ s)
unfolding file_prefix
names_and_legs_same n m xs ys ks ls r s e = sym (append_assoc (flat_map fix_bytes xs) (flat_map leg_bytes ks) r) ∙ ap (λ zs. drop chart_record_length zs) e ∙ append_assoc (flat_map fix_bytes ys) (flat_map leg_bytes ls) s

module _ {file : List ℕ} {n m : ℕ} {ks ls : List Row} {r s : List ℕ} {o p : Verdict} where
  legs_agree : {names : List Name} → View file n m names ks r o → View file n m names ls s p → SameOrLonger leg_bytes ks ls r s → SameView names names ks ls o p
  legs_agree {names = names} v w (same el er) = record { names = refl; legs = el; outcomes = ending_is_one (subst₂ (λ zs t. EndsAs n m names zs t o) el er v.ends) w.ends }
  legs_agree v w (left more) = absurd (no_more_legs v w more)
  legs_agree v w (right more) = absurd (no_more_legs w v more)

  names_agree : {xs ys : List Name} → View file n m xs ks r o → View file n m ys ls s p → SameOrLonger fix_bytes xs ys (flat_map leg_bytes ks ++ r) (flat_map leg_bytes ls ++ s) → SameView xs ys ks ls o p
  names_agree v w (same en e) =
      let t = legs_agree (subst (λ zs. View file n m zs ks r o) en v) w (same_or_longer leg_bytes (λ a. a.standing ≡ Open) no_row leg_is_one ks ls r s v.valid.legs_open w.valid.legs_open e) in
      record { names = en; legs = t.legs; outcomes = t.outcomes }
  names_agree v w (left more) = absurd (no_more_names v w more)
  names_agree v w (right more) = absurd (no_more_names w v more)

pub views_agree : {file : List ℕ} {n n' m m' : ℕ} {xs ys : List Name} {ks ls : List Row} {r s : List ℕ} {o p : Verdict} →
    View file n m xs ks r o → View file n' m' ys ls s p → SameView xs ys ks ls o p
views_agree {file} {n} {n'} {m} {m'} {xs} {ys} {ks} {ls} {r} {s} {o} {p} v w =
    let counts = counts_are_one n n' m m' xs ys ks ls r s (sym v.bytes ∙ w.bytes) in
    let v' = subst₂ (λ k l. View file k l xs ks r o) counts.0 counts.1 v in
    let e = names_and_legs_same n' m' xs ys ks ls r s (sym v'.bytes ∙ w.bytes) in
    names_agree v' w (same_or_longer fix_bytes (λ _. Unit {0}) [] (λ a b _ _. fix_is_one a b) xs ys (flat_map leg_bytes ks ++ r) (flat_map leg_bytes ls ++ s) (λ _ _. tt) (λ _ _. tt) e)
