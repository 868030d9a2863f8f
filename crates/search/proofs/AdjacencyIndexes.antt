-- The legs of a chart are copied into a row, and indexed from the last to the first.
use Rattle.std.proofs.Common.{◌≡◌, ℕ, ◌+◌, ◌<◌, ◌≤◌, List, [], ◌∷◌, ◌++◌, length, get_or, take, map, set, replicate, Option, Some, None, sym, refl, ap, ◌∙◌, subst, ⊎_elim, arith, length-set, length-take, get_or-take}
use Rattle.std.proofs.lemmas.List.{get_or-set_same, get_or-set_other, get_or-replicate, length-replicate, length-map, get_or-map, map-set, take_more, take_more_set, take_all, take-append-le, map-append}
use Rattle.std.proofs.Math.Seq.{map-set_same}
use Rattle.std.proofs.lemmas.Bool.{cases_eq}
use Rattle.chart.specs.declared.leg.Leg.{Leg}
use Rattle.chart.specs.Legs.{leg_at, no_leg, IsChart}
use Rattle.chart.specs.Limits.{max_fixes, max_legs}
use Rattle.search.specs.declared.snapshot.IndexedLeg.{IndexedLeg}
use Rattle.search.specs.internal.Index.{indexed_legs, first_legs, next_legs, FitsIndex, IsAdjacencyIndex}
use Rattle.search.specs.LegsLeaving.{IsFirstLeg}

pub first_legs_length : (count : ℕ) (row : List IndexedLeg) → length row ≡ max_legs → count ≤ max_legs → length (first_legs count row) ≡ count
first_legs_length count row whole filled =
    let e = length-take count (map (λ (l : IndexedLeg). l.leg) row) in
    omega (arith, length-map row (λ (l : IndexedLeg). l.leg))

-- the leg of a number, as it is read in the row
pub first_legs_at : (count : ℕ) (row : List IndexedLeg) (k : ℕ) (d : IndexedLeg) → k < count → count ≤ length row → leg_at (first_legs count row) k ≡ (get_or row k d).leg
unfolding leg_at
first_legs_at count row k d lt le = get_or-take count (map (λ (l : IndexedLeg). l.leg) row) k no_leg lt ∙ get_or-map (λ (l : IndexedLeg). l.leg) row k d no_leg (omega arith)

-- what a row keeps at the beginning of a longer one
pub front_is_first_legs : {legs : List Leg} (count : ℕ) (row rest : List IndexedLeg) → count ≡ length legs → indexed_legs row ≡ legs → first_legs count (row ++ rest) ≡ legs
front_is_first_legs count row rest long is =
    let n = ap (λ (ls : List Leg). length ls) is in
    ap (λ ls. take count ls) (map-append (λ (l : IndexedLeg). l.leg) row rest)
    ∙ take-append-le count (indexed_legs row) (indexed_legs rest) (omega arith)
    ∙ take_all count (indexed_legs row) (omega arith)
    ∙ is

pub row_fits_index : {fixes : ℕ} {legs : List Leg} {row : List IndexedLeg} → IsChart fixes legs → indexed_legs row ≡ legs → FitsIndex row
row_fits_index {fixes} {legs} {row} c e =
    let n = length-map row (λ (l : IndexedLeg). l.leg) in
    let m = ap (λ (ls : List Leg). length ls) e in
    record {
      few = omega (arith, c.few);
      leaves = λ k b. subst (λ (ls : List Leg). (leg_at ls k).from < max_fixes) (sym e) (omega (arith, c.leaves k (omega arith), c.most));
    }

pub index_of_none : (legs : List Leg) (next : List (Option ℕ)) → IsAdjacencyIndex legs (length legs) (replicate max_fixes None) next
index_of_none legs next = record {
  heads = length-replicate {A = Option ℕ} max_fixes None;
  starts = λ v h. subst (λ j. IsFirstLeg legs v (length legs) j) (sym (get_or-replicate {A = Option ℕ} max_fixes v None None h)) (λ k a b e. omega arith);
  goes = λ k a b. absurd (let z : k < length legs = b in omega arith);
}

-- where the leg k does not leave v, the first leg from k on is the first one after it
pub first_below : (legs : List Leg) (k v : ℕ) (r : Option ℕ) → (v ≡ (leg_at legs k).from → ⊥) → IsFirstLeg legs v (k + 1) r → IsFirstLeg legs v k r
first_below legs k v None ne h = λ i a b e. ⊎_elim (λ ik. ne (sym e ∙ ap (λ x. (leg_at legs x).from) ik)) (λ nik. h i (omega arith) b e) (cases_eq i k)
first_below legs k v (Some j) ne h = record {
  there = h.there;
  above = omega (arith, h.above);
  leaves = h.leaves;
  gap = λ i a b e. ⊎_elim (λ ik. ne (sym e ∙ ap (λ x. (leg_at legs x).from) ik)) (λ nik. h.gap i (omega arith) b e) (cases_eq i k);
}

module _ (legs : List Leg) (k : ℕ) (first next : List (Option ℕ)) (lt : k < length legs) (fits : (leg_at legs k).from < max_fixes) (room : k < length next) (l : IsAdjacencyIndex legs (k + 1) first next) where
  head_here : IsFirstLeg legs (leg_at legs k).from k (Some k)
  head_here = record { there = lt; above = omega arith; leaves = refl; gap = λ i a b e. omega arith }

  pub index_of_one_more : IsAdjacencyIndex legs k (set first (leg_at legs k).from (Some k)) (set next k (get_or first (leg_at legs k).from None))
  index_of_one_more =
      let from = (leg_at legs k).from in
      let in_first : from < length first = omega (arith, l.heads) in
      record {
        heads = length-set first from (Some k) ∙ l.heads;
        starts = λ v h. ⊎_elim
            (λ e. subst (λ x. IsFirstLeg legs x k (get_or (set first from (Some k)) x None)) (sym e) (subst (λ j. IsFirstLeg legs from k j) (sym (get_or-set_same first from (Some k) None in_first)) head_here))
            (λ ne. subst (λ j. IsFirstLeg legs v k j) (sym (get_or-set_other first from v (Some k) None ne)) (first_below legs k v (get_or first v None) ne (l.starts v h)))
            (cases_eq v from);
        goes = λ i a b. ⊎_elim
            (λ e. subst (λ x. IsFirstLeg legs (leg_at legs x).from (x + 1) (get_or (set next k (get_or first from None)) x None)) (sym e) (subst (λ j. IsFirstLeg legs from (k + 1) j) (sym (get_or-set_same next k (get_or first from None) None room)) (l.starts from fits)))
            (λ ne. subst (λ j. IsFirstLeg legs (leg_at legs i).from (i + 1) j) (sym (get_or-set_other next k i (get_or first from None) None ne)) (l.goes i (omega arith) b))
            (cases_eq i k);
      }

-- the leg k of a row is indexed, as the code reads it
module _ {row : List IndexedLeg} {k : ℕ} (d : IndexedLeg) (fits_index : FitsIndex row) (lt : k < length row) where
  entry_keeps_legs : (next : Option ℕ) → indexed_legs (set row k (record { leg = (get_or row k d).leg; next = next })) ≡ indexed_legs row
  entry_keeps_legs next = map-set_same (λ (l : IndexedLeg). l.leg) row k (record { leg = (get_or row k d).leg; next = next }) d refl

  read : leg_at (indexed_legs row) k ≡ (get_or row k d).leg
  unfolding leg_at
  read = get_or-map (λ (l : IndexedLeg). l.leg) row k d no_leg lt

  pub leaves_in_first : (first : List (Option ℕ)) → length first ≡ max_fixes → (get_or row k d).leg.from < length first
  leaves_in_first first e = let l = fits_index.leaves k lt in subst (λ (x : Leg). x.from < length first) read (omega arith)

  entry_indexed : {first : List (Option ℕ)} → IsAdjacencyIndex (indexed_legs row) (k + 1) first (next_legs row) → IsAdjacencyIndex (indexed_legs row) k (set first (get_or row k d).leg.from (Some k)) (next_legs (set row k (record { leg = (get_or row k d).leg; next = get_or first (get_or row k d).leg.from None })))
  entry_indexed {first} c =
      let legs = length-map row (λ (l : IndexedLeg). l.leg) in
      let next_legs' = length-map row (λ (l : IndexedLeg). l.next) in
      let more = index_of_one_more (indexed_legs row) k first (next_legs row) (omega arith) (fits_index.leaves k lt) (omega arith) c in
      let put = map-set (λ (l : IndexedLeg). l.next) row k (record { leg = (get_or row k d).leg; next = get_or first (get_or row k d).leg.from None }) in
      subst (λ ns. IsAdjacencyIndex (indexed_legs row) k (set first (get_or row k d).leg.from (Some k)) ns) (sym put)
      (subst (λ (x : Leg). IsAdjacencyIndex (indexed_legs row) k (set first x.from (Some k)) (set (next_legs row) k (get_or first x.from None))) read more)

  still_fits : (next : Option ℕ) → FitsIndex (set row k (record { leg = (get_or row k d).leg; next = next }))
  still_fits next =
      let new : IndexedLeg = record { leg = (get_or row k d).leg; next = next } in
      let same = length-set row k new in
      record {
        few = omega (arith, fits_index.few);
        leaves = subst (λ legs. (i : ℕ) → i < length (set row k new) → (leg_at legs i).from < max_fixes) (sym (entry_keeps_legs next)) (λ i b. fits_index.leaves i (omega arith));
      }

  -- the row after the step of the leg k: with the same legs, and indexed from k on
  pub index_step : {first : List (Option ℕ)} → IsAdjacencyIndex (indexed_legs row) (k + 1) first (next_legs row) →
      let head = get_or first (get_or row k d).leg.from None in
      let row' = set row k (record { leg = (get_or row k d).leg; next = head }) in
      (indexed_legs row' ≡ indexed_legs row) × FitsIndex row' × IsAdjacencyIndex (indexed_legs row') k (set first (get_or row k d).leg.from (Some k)) (next_legs row')
  index_step {first} c =
      let head = get_or first (get_or row k d).leg.from None in
      let row' = set row k (record { leg = (get_or row k d).leg; next = head }) in
      (entry_keeps_legs head, still_fits head, subst (λ legs. IsAdjacencyIndex legs k (set first (get_or row k d).leg.from (Some k)) (next_legs row')) (sym (entry_keeps_legs head)) (entry_indexed c))

pub copied_more : (legs : List Leg) (row : List IndexedLeg) (k : ℕ) (new : IndexedLeg) → length row ≡ length legs → k < length legs → new.leg ≡ leg_at legs k → first_legs k row ≡ take k legs → first_legs (k + 1) (set row k new) ≡ take (k + 1) legs
unfolding leg_at
copied_more legs row k new whole lt is c =
    let n = length-map row (λ (l : IndexedLeg). l.leg) in
    ap (λ ls. take (k + 1) ls) (map-set (λ (l : IndexedLeg). l.leg) row k new)
    ∙ take_more_set (map (λ (l : IndexedLeg). l.leg) row) k new.leg (omega arith)
    ∙ ap (λ ls. ls ++ new.leg ∷ []) c
    ∙ ap (λ l. take k legs ++ l ∷ []) is
    ∙ sym (take_more legs k no_leg lt)
