-- Where the reader stands between two records: one name or one leg more, or the fault that the file has there.
use Rattle.std.proofs.Common.{◌≡◌, ℕ, zero, suc, ◌+◌, ◌*◌, ◌<◌, ◌≤◌, List, [], ◌∷◌, ◌++◌, length, take, drop, sym, refl, ap, ◌∙◌, subst, subst₂, inl, add-one, arith, length-append, length-drop}
use Rattle.std.specs.List.{flat_map}
use Rattle.std.proofs.lemmas.List.{drop-drop, length_push, take_at, take-append-le, get_or-drop, append-nil, nil_from_length}
use Rattle.std.proofs.lemmas.Grind.{common_steps}
use Rattle.chart.specs.declared.row.Row.{Row}
use Rattle.chart_format.specs.declared.faults.ChartFault.{ChartFault}
use Rattle.chart_format.specs.declared.faults.ChartFault.TheVariants.{BytesAfter}
use Rattle.chart_format.specs.Format.{Name, chart_bytes, fix_bytes, end_bytes, file_prefix, IsChartPrefix, Means, name_place, mark_length, chart_record_length, leg_record_length, name_offset}
use Rattle.chart_format.specs.Reports.{chart_report}
use Rattle.chart_format.specs.Checks.{Check, Pass, byte, AreBytes, body, name_in, leg_in, fixes_in, legs_in, chart_checks, fix_checks, leg_checks, end_checks}
use Rattle.chart_format.specs.Faults.{HasPrefix, HasFault, at_fix, at_leg, at_end, after_end, Finds, IsFaultOf}
use Rattle.reader.specs.Files.{names_at}
use Rattle.reader.specs.internal.RecordPlaces.{HasFixBody, IsNameIndex, legs_at}
use Rattle.reader.specs.internal.ReadingStates.{Refuses, AfterNames, AfterLegs, FaultAt}
use Rattle.reader.proofs.NamesAt.{names_push, names_length}
use Rattle.reader.proofs.PrefixWithRecord.{prefix_of_chart, prefix_with_fix, prefix_with_leg, end_written_back, push_all}

-- every fault tells the layer that finds its number
pub fault_is_in_its_layer : (e : ChartFault) → Finds (chart_report e).layer (chart_report e).number
fault_is_in_its_layer e = grind arith

pub fault_of : (file : List ℕ) (room : ℕ) (e : ChartFault) → HasFault file room (chart_report e).number (chart_report e).place → IsFaultOf file room (chart_report e)
fault_of file room e o = record { has_fault = o; in_layer = fault_is_in_its_layer e }

-- where a record is refused at p, the file has that fault there
fault_where_refused : {file : List ℕ} {m p is : ℕ} {checks : List Check} {e : ChartFault} → Refuses checks e p is → ((room : ℕ) → m ≤ room → HasFault file room (chart_report e).number p) → FaultAt file m e is
fault_where_refused {file} {e = e} f has = record {
  fault = λ room fits. fault_of file room e (subst (HasFault file room (chart_report e).number) (sym f.fails.1) (has room fits));
  there = f.again ∙ sym f.fails.1;
}

rest_are_bytes : (file : List ℕ) (p : ℕ) → AreBytes file → AreBytes (drop p file)
rest_are_bytes file p small i = let e = get_or-drop p file i 0 in let b = small (p + i) in omega arith

-- after the chart's record
pub after_no_names : (file : List ℕ) (room : ℕ) {n m q : ℕ} → AreBytes file → Pass (chart_checks room file) → n ≡ fixes_in (body file) → m ≡ legs_in (body file) → q ≡ chart_record_length → AfterNames file q n m []
after_no_names file room {n} {m} small pass en em eq =
    let b = prefix_of_chart room file small pass in
    let b₁ = subst₂ (λ x y. HasPrefix file chart_record_length x y [] [] (drop chart_record_length file)) (sym en) (sym em) b in
    record {
      prefix = subst (λ x. HasPrefix file x n m [] [] (drop x file)) (sym eq) b₁;
      inside = let z = pass.1.1.1.0 in let d = length-drop 2 file in omega arith;
      bodies = λ i h. absurd (let z = h in omega arith);
      indexed = λ i h. absurd (let z = h in omega arith);
    }

-- the place of the name after those given
next_place : (n m : ℕ) (names : List Name) (name : Name) (p : ℕ) → p ≡ length (file_prefix n m names []) → p + name_offset ≡ name_place (names ++ name ∷ []) (length names)
unfolding file_prefix name_place
next_place n m names name p e =
    let front : take (length names) (names ++ name ∷ []) ≡ names = take_at names (name ∷ []) (length names) refl in
    let same : length (flat_map fix_bytes (take (length names) (names ++ name ∷ []))) ≡ length (flat_map fix_bytes names) = ap (λ xs. length (flat_map fix_bytes xs)) front in
    let whole : length ((chart_bytes n m ++ flat_map fix_bytes names) ++ []) ≡ length (chart_bytes n m ++ flat_map fix_bytes names) = ap length (append-nil (chart_bytes n m ++ flat_map fix_bytes names)) in
    let parts = length-append (chart_bytes n m) (flat_map fix_bytes names) in
    omega arith

-- a name after the one of the number j does not move it
same_place : (names : List Name) (name : Name) (j : ℕ) → j ≤ length names → name_place (names ++ name ∷ []) j ≡ name_place names j
unfolding name_place
same_place names name j h = ap (λ xs. chart_record_length + length (flat_map fix_bytes xs) + name_offset) (take-append-le j names (name ∷ []) h)

-- one name more
module _ {file : List ℕ} {p n m : ℕ} {starts : List ℕ} (r : AfterNames file p n m starts) (lt : length starts < n) where
  names : List Name
  names = names_at file starts

  counted : length names ≡ length starts
  unfolding names
  counted = names_length file starts

  same_names : names_at file (starts ++ p ∷ []) ≡ names ++ name_in (body (drop p file)) ∷ []
  unfolding names
  same_names = names_push file starts p

  next_indexed : IsNameIndex file (starts ++ p ∷ [])
  unfolding names
  next_indexed j h =
      let e = next_place n m names (name_in (body (drop p file))) p r.prefix.place in
      grind (arith, common_steps, same_names, counted, r.indexed j, same_place names (name_in (body (drop p file))) j)

  pub after_names_more : {q : ℕ} → Pass (fix_checks (names_at file starts) (drop p file)) → q ≡ p + (name_offset + byte (body (drop p file)) 0) → AfterNames file q n m (starts ++ p ∷ [])
  unfolding names
  after_names_more pass e =
      let more = prefix_with_fix r.prefix (omega (arith, counted)) pass in
      let dl = length-drop p file in
      let db = length-drop 2 (drop p file) in
      let complete = pass.1.1.1.0.1 in
      record {
        prefix = subst₂ (λ x ns. HasPrefix file x n m ns [] (drop x file)) (sym e) (sym same_names) more;
        inside = omega (arith, r.inside);
        bodies = push_all (HasFixBody file) 0 starts p r.bodies (r.inside, pass.1.1.1.0.0, pass.1.1.1.0.1);
        indexed = next_indexed;
      }

  pub fault_at_fix : {e : ChartFault} {is : ℕ} → Refuses (fix_checks (names_at file starts) (drop p file)) e p is → FaultAt file m e is
  unfolding names
  fault_at_fix f = fault_where_refused f (λ room fits. at_fix n m names (drop p file) r.prefix fits (omega (arith, counted)) f.fails.0)

-- after all the names
pub after_no_legs : {file : List ℕ} {p n m : ℕ} {starts : List ℕ} → m ≡ legs_in (body file) → length starts ≡ n → AfterNames file p n (legs_in (body file)) starts → AfterLegs file p n m (names_at file starts) p 0
after_no_legs {file} {p} {n} {starts = starts} e all r = subst (λ x. AfterLegs file p n x (names_at file starts) p 0) (sym e) (record {
  prefix = r.prefix;
  read_to = omega arith;
  whole = names_length file starts ∙ all;
  upto = omega arith;
})

pub legs_length : (file : List ℕ) (p k : ℕ) → length (legs_at file p k) ≡ k
legs_length file p zero = refl
legs_length file p (suc k) = let e = legs_length file p k in let l = length_push (legs_at file p k) (leg_in (body (drop (p + leg_record_length * k) file))) in omega arith

pub legs_more : (file : List ℕ) (p k : ℕ) → legs_at file p (k + 1) ≡ legs_at file p k ++ leg_in (body (drop (p + leg_record_length * k) file)) ∷ []
legs_more file p k = ap (legs_at file p) (add-one k)

module _ {file : List ℕ} {p n m : ℕ} {names : List Name} {base k : ℕ} (r : AfterLegs file p n m names base k) (lt : k < m) where
  pub after_legs_more : {q : ℕ} → AreBytes file → Pass (leg_checks n (drop p file)) → q ≡ p + leg_record_length → AfterLegs file q n m names base (k + 1)
  after_legs_more small pass e =
      let ll = legs_length file base k in
      let more = prefix_with_leg (rest_are_bytes file p small) r.prefix (omega arith) pass in
      let same : legs_at file base k ++ leg_in (body (drop p file)) ∷ [] ≡ legs_at file base (k + 1) = ap (λ x. legs_at file base k ++ leg_in (body (drop x file)) ∷ []) r.read_to ∙ sym (legs_more file base k) in
      record {
        prefix = subst₂ (λ x ls. HasPrefix file x n m names ls (drop x file)) (sym e) same more;
        read_to = omega (arith, r.read_to);
        whole = r.whole;
        upto = omega arith;
      }

  pub fault_at_leg : {e : ChartFault} {is : ℕ} → Refuses (leg_checks n (drop p file)) e p is → FaultAt file m e is
  fault_at_leg f =
      let ll = legs_length file base k in
      fault_where_refused f (λ room fits. at_leg n m names (legs_at file base k) (drop p file) r.prefix fits r.whole (omega arith) f.fails.0)

-- after all the legs
module _ {file : List ℕ} {p n m : ℕ} {names : List Name} {base : ℕ} (r : AfterLegs file p n m names base m) where
  legs : List Row
  legs = legs_at file base m

  pub fault_at_end : {e : ChartFault} {is : ℕ} → Refuses (end_checks (drop p file)) e p is → FaultAt file m e is
  unfolding legs
  fault_at_end f = fault_where_refused f (λ room fits. at_end n m names legs (drop p file) r.prefix fits r.whole (legs_length file base m) f.fails.0)

  module _ {q : ℕ} (e : q ≡ p + mark_length) (pass : Pass (end_checks (drop p file))) where
    ended : drop p file ≡ end_bytes ++ drop q file
    ended = end_written_back (drop p file) pass ∙ ap (λ x. end_bytes ++ x) (drop-drop 2 p file ∙ ap (λ x. drop x file) (sym e))

    pub read_whole : length file ≤ q → Means file names (legs_at file base m)
    unfolding legs
    read_whole h =
        let none : drop q file ≡ [] = nil_from_length (drop q file) (let ld = length-drop q file in omega arith) in
        let bytes : file ≡ file_prefix n m names legs ++ end_bytes = r.prefix.bytes ∙ ap (λ x. file_prefix n m names legs ++ x) (ended ∙ ap (λ x. end_bytes ++ x) none) in
        let lm = legs_length file base m in
        record {
          valid = subst₂ (λ x y. IsChartPrefix x y names legs) (sym r.whole) (sym lm) r.prefix.valid;
          bytes = subst₂ (λ x y. file ≡ file_prefix x y names legs ++ end_bytes) (sym r.whole) (sym lm) bytes;
        }

    pub fault_after_end : q < length file → FaultAt file m (BytesAfter q) q
    unfolding legs
    fault_after_end h =
        let ld = length-drop q file in
        record {
          fault = λ room fits. fault_of file room (BytesAfter q) (after_end n m p names legs (drop q file)
              (record { valid = r.prefix.valid; place = r.prefix.place; bytes = r.prefix.bytes ∙ ap (λ x. file_prefix n m names legs ++ x) ended })
              fits r.whole (legs_length file base m) e (inl ((λ z. omega arith), refl)));
          there = refl;
        }
