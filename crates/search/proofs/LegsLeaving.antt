-- The legs that leave a fix, one after the other.
use Rattle.std.proofs.Common.{◌≡◌, ℕ, zero, suc, ◌+◌, ◌-◌, ◌<◌, ◌≤◌, ◌==◌, ◌≢◌, false, cond, List, [], ◌∷◌, length, filter, get_or, Some, None, Option, sym, refl, ap, ◌∙◌, subst, ⊎_elim, arith}
use Rattle.std.specs.List.{range_with_len}
use Rattle.std.proofs.lemmas.List.{get_or-map}
use Rattle.std.proofs.lemmas.Bool.{cases_eq, cases_lt, eq-eqb}
use Rattle.std.proofs.lemmas.Bool.Decides.{nat_tests}
use Rattle.chart.specs.declared.leg.Leg.{Leg}
use Rattle.chart.specs.Legs.{leg_at}
use Rattle.chart.specs.Limits.{max_fixes}
use Rattle.search.specs.declared.snapshot.IndexedLeg.{IndexedLeg}
use Rattle.search.specs.declared.snapshot.Snapshot.{Snapshot}
use Rattle.search.specs.LegsLeaving.{IsFirstLeg, legs_leaving}
use Rattle.search.specs.LegsLeaving.{legs_left_from}
use Rattle.search.specs.Snapshots.{snapshot_fixes, snapshot_legs, IsNextLeg}
use Rattle.search.specs.laws.SnapshotLaws.{snapshot_is_chart}
use Rattle.search.proofs.AdjacencyIndexes.{first_legs_length, first_legs_at, first_below}

module _ (s : Snapshot) where
  pub snapshot_length : length (snapshot_legs s) ≡ s.count
  unfolding snapshot_legs
  snapshot_length = first_legs_length s.count s.legs s.whole s.filled

  -- the leg of a number, as it is read in the row
  pub snapshot_at : (k : ℕ) (d : IndexedLeg) → k < s.count → (get_or s.legs k d).leg ≡ leg_at (snapshot_legs s) k
  unfolding snapshot_legs
  snapshot_at k d h = sym (first_legs_at s.count s.legs k d h (omega (arith, s.whole, s.filled)))

  -- a leg leads to a fix that a chart can have
  pub leads_to_fix : {k : ℕ} {leg : Leg} → k < length (snapshot_legs s) → leg ≡ leg_at (snapshot_legs s) k → leg.to < max_fixes
  leads_to_fix {k} lt is =
      let c = snapshot_is_chart s in
      let e = ap (λ (l : Leg). l.to) is in
      omega (arith, c.enters k lt, c.most)

  pub snapshot_first : (v : ℕ) → v < snapshot_fixes s → IsFirstLeg (snapshot_legs s) v 0 (get_or s.first v None)
  unfolding snapshot_legs
  snapshot_first v h = s.index.starts v (omega (arith, s.is_chart.most))

  pub no_leg_leaves : (v : ℕ) → snapshot_fixes s ≤ v → IsFirstLeg (snapshot_legs s) v 0 None
  no_leg_leaves v h k a b e = let l = (snapshot_is_chart s).leaves k b in omega arith

  pub snapshot_next : (k : ℕ) (d : IndexedLeg) → k < s.count → IsNextLeg (snapshot_legs s) k (get_or s.legs k d).next
  unfolding snapshot_legs
  snapshot_next k d h =
      let n = snapshot_length in
      let read = get_or-map (λ (l : IndexedLeg). l.next) s.legs k d None (omega (arith, s.whole, s.filled)) in
      record {
        after = λ b. subst (λ r. IsFirstLeg (snapshot_legs s) (leg_at (snapshot_legs s) k).from (k + 1) r) read (s.index.goes k (omega arith) b);
        past = λ b. absurd (omega arith);
      }

module _ (legs : List Leg) (v : ℕ) where
  leaving_unfolds : (low : ℕ) → low < length legs → legs_leaving legs v low ≡ cond ((leg_at legs low).from == v) (low ∷ legs_leaving legs v (low + 1)) (legs_leaving legs v (low + 1))
  unfolding legs_leaving
  leaving_unfolds low lt =
      let e : length legs - low ≡ suc (length legs - (low + 1)) = omega arith in
      ap (λ n. filter (λ k. (leg_at legs k).from == v) (range_with_len low n)) e

  pub leaving_takes : (j : ℕ) → j < length legs → (leg_at legs j).from ≡ v → legs_leaving legs v j ≡ j ∷ legs_leaving legs v (j + 1)
  leaving_takes j lt e = leaving_unfolds j lt ∙ ap (λ b. cond b (j ∷ legs_leaving legs v (j + 1)) (legs_leaving legs v (j + 1))) (eq-eqb _ _ e)

  leaving_past : (low : ℕ) → length legs ≤ low → legs_leaving legs v low ≡ []
  unfolding legs_leaving
  leaving_past low ge =
      let e : length legs - low ≡ 0 = omega arith in
      ap (λ n. filter (λ k. (leg_at legs k).from == v) (range_with_len low n)) e

  leaving_skips : (low : ℕ) → (low < length legs → (leg_at legs low).from ≢ v) → legs_leaving legs v low ≡ legs_leaving legs v (low + 1)
  leaving_skips low none =
      ⊎_elim
      (λ lt.
      let ne = none lt in
      let e : ((leg_at legs low).from == v) ≡ false = grind (arith, nat_tests) in
      leaving_unfolds low lt ∙ ap (λ b. cond b (low ∷ legs_leaving legs v (low + 1)) (legs_leaving legs v (low + 1))) e)
      (λ ge. leaving_past low ge ∙ sym (leaving_past (low + 1) (omega arith)))
      (cases_lt low (length legs))

  leaving_skips_to : (n low : ℕ) → ((k : ℕ) → low ≤ k → k < low + n → k < length legs → (leg_at legs k).from ≢ v) → legs_leaving legs v low ≡ legs_leaving legs v (low + n)
  leaving_skips_to zero low none = ap (λ m. legs_leaving legs v m) (omega arith)
  leaving_skips_to (suc n) low none =
      leaving_skips low (λ b. none low (omega arith) (omega arith) b)
      ∙ leaving_skips_to n (low + 1) (λ k a b c. none k (omega arith) (omega arith) c)
      ∙ ap (λ m. legs_leaving legs v m) (omega arith)

  -- the legs from a first one on are all that leave the fix
  pub leaving_first : (low : ℕ) (r : Option ℕ) → IsFirstLeg legs v low r → legs_left_from legs r ≡ legs_leaving legs v low
  leaving_first low None none = sym (leaving_skips_to (length legs - low) low (λ k a b c. none k a c) ∙ leaving_past (low + (length legs - low)) (omega arith))
  leaving_first low (Some j) l =
      ap (λ w. legs_leaving legs w j) l.leaves
      ∙ ap (λ m. legs_leaving legs v m) (let a = l.above in omega arith)
      ∙ sym (leaving_skips_to (j - low) low (λ k a b c. l.gap k a (omega (arith, l.above))))

  -- there is a first one, or none
  first_or_none : (n low : ℕ) → length legs ≤ low + n → (r : Option ℕ) × IsFirstLeg legs v low r
  first_or_none zero low le = (None, λ k a b e. omega arith)
  first_or_none (suc n) low le =
      ⊎_elim
      (λ lt. ⊎_elim
      (λ e. (Some low, record { there = lt; above = omega arith; leaves = e; gap = λ k a b e. omega arith }))
      (λ ne. let f = first_or_none n (low + 1) (omega arith) in (f.0, first_below legs low v f.0 (λ e. ne (sym e)) f.1))
      (cases_eq (leg_at legs low).from v))
      (λ ge. (None, λ k a b e. omega arith))
      (cases_lt low (length legs))

  leaving_first_or_none : (low : ℕ) → (r : Option ℕ) × IsFirstLeg legs v low r × (legs_left_from legs r ≡ legs_leaving legs v low)
  leaving_first_or_none low = let f = first_or_none (length legs) low (omega arith) in (f.0, f.1, leaving_first low f.0 f.1)

  -- what a first item, or none, says
  pub leaving_ends : {low : ℕ} → legs_leaving legs v low ≡ [] → IsFirstLeg legs v low None
  leaving_ends {low} e = let f = leaving_first_or_none low in none_left f.0 f.1 (f.2 ∙ e)
    where
      none_left : (r : Option ℕ) → IsFirstLeg legs v low r → legs_left_from legs r ≡ [] → IsFirstLeg legs v low None
      none_left None f e = f
      none_left (Some j) f e =
          let z : j ∷ legs_leaving legs v (j + 1) ≡ [] = sym (leaving_takes j f.there f.leaves) ∙ ap (λ w. legs_leaving legs w j) (sym f.leaves) ∙ e in
          absurd (let y : ◌≡◌ {A = ℕ} 0 1 = cc in omega arith)

  pub leaving_goes_on : {low j : ℕ} {rest : List ℕ} → legs_leaving legs v low ≡ j ∷ rest → IsFirstLeg legs v low (Some j) × (rest ≡ legs_leaving legs v (j + 1))
  leaving_goes_on {low} {j} {rest} e = let f = leaving_first_or_none low in some_left f.0 f.1 (f.2 ∙ e)
    where
      some_left : (r : Option ℕ) → IsFirstLeg legs v low r → legs_left_from legs r ≡ j ∷ rest → IsFirstLeg legs v low (Some j) × (rest ≡ legs_leaving legs v (j + 1))
      some_left None f e = absurd (let y : ◌≡◌ {A = ℕ} 0 1 = cc in omega arith)
      some_left (Some i) f e =
          let z : i ∷ legs_leaving legs v (i + 1) ≡ j ∷ rest = sym (leaving_takes i f.there f.leaves) ∙ ap (λ w. legs_leaving legs w i) (sym f.leaves) ∙ e in
          let ij : i ≡ j = cc in
          let tail : legs_leaving legs v (i + 1) ≡ rest = cc in
          (subst (λ m. IsFirstLeg legs v low (Some m)) ij f, sym tail ∙ ap (λ m. legs_leaving legs v (m + 1)) ij)

-- the leg k comes first, and then what is left from the next one on
pub left_from_unfolds : (legs : List Leg) (k : ℕ) (r : Option ℕ) → k < length legs → IsNextLeg legs k r → legs_left_from legs (Some k) ≡ k ∷ legs_left_from legs r
left_from_unfolds legs k r lt next = leaving_takes legs (leg_at legs k).from k lt refl ∙ ap (λ ks. k ∷ ks) (sym (leaving_first legs (leg_at legs k).from (k + 1) r (next.after lt)))
