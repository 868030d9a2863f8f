-- One record more at the beginning of a file: a record that passes its checks is its bytes, and the file then begins with it too.
use Rattle.std.proofs.Common.{◌≡◌, ℕ, ◌+◌, ◌<◌, ◌≤◌, List, [], ◌∷◌, ◌++◌, length, get_or, take, drop, sym, refl, ap, ◌∙◌, append_assoc, arith, length-append, length-drop}
use Rattle.std.proofs.lemmas.Grind.{common_steps}
use Rattle.std.specs.List.{flat_map}
use Rattle.std.proofs.lemmas.List.{flat_map_more, take-append-drop, drop-drop, length_push, length-take-le, append-nil}
use Rattle.chart.specs.declared.row.Row.{Row}
use Rattle.chart.specs.declared.row.Standing.TheVariants.{Open}
use Rattle.chart.specs.Rows.{IsValidRow, no_row}
use Rattle.chart_format.specs.Format.{Name, chart_bytes, fix_bytes, leg_bytes, end_bytes, file_prefix, IsName, IsUnused, IsChartPrefix, mark_length, chart_record_length, leg_record_length, name_offset}
use Rattle.chart_format.specs.Checks.{Pass, byte, AreBytes, body, name_in, leg_in, fixes_in, legs_in, chart_checks, fix_checks, leg_checks, end_checks}
use Rattle.chart_format.specs.Faults.{HasPrefix}
use Rattle.chart_format.proofs.LegReadBack.{leg_written_back, two_bytes_written_back}

file_prefix_with_fix : (n m : ℕ) (names : List Name) (name : Name) → file_prefix n m (names ++ name ∷ []) [] ≡ file_prefix n m names [] ++ fix_bytes name
unfolding file_prefix
file_prefix_with_fix n m names name =
    append-nil (chart_bytes n m ++ flat_map fix_bytes (names ++ name ∷ []))
    ∙ sym (flat_map_more fix_bytes (chart_bytes n m) names name)
    ∙ ap (λ x. x ++ fix_bytes name) (sym (append-nil (chart_bytes n m ++ flat_map fix_bytes names)))

file_prefix_with_leg : (n m : ℕ) (names : List Name) (legs : List Row) (leg : Row) → file_prefix n m names (legs ++ leg ∷ []) ≡ file_prefix n m names legs ++ leg_bytes leg
unfolding file_prefix
file_prefix_with_leg n m names legs leg = sym (flat_map_more leg_bytes (chart_bytes n m ++ flat_map fix_bytes names) legs leg)

fix_written_back : (names : List Name) (rest : List ℕ) → Pass (fix_checks names rest) → rest ≡ fix_bytes (name_in (body rest)) ++ drop (name_offset + byte (body rest) 0) rest
fix_written_back names [] p = absurd (let z = p.0 in omega arith)
fix_written_back names (a ∷ []) p = absurd (let z = p.0 in omega arith)
fix_written_back names (a ∷ b ∷ []) p = absurd (let z = p.1.1.1.0.0 in omega arith)
fix_written_back names (a ∷ b ∷ l ∷ bytes) p =
    let fits = p.1.1.1.0.1 in
    let len : length (take l bytes) ≡ l = length-take-le l bytes (omega arith) in
    let tail : drop (3 + l) (a ∷ b ∷ l ∷ bytes) ≡ drop l bytes = sym (drop-drop l 3 (a ∷ b ∷ l ∷ bytes)) in
    let whole : l ∷ bytes ≡ length (take l bytes) ∷ take l bytes ++ drop (3 + l) (a ∷ b ∷ l ∷ bytes) =
    ap (λ x. l ∷ x) (sym (take-append-drop l bytes) ∙ ap (λ x. take l bytes ++ x) (sym tail))
    ∙ ap (λ k. k ∷ take l bytes ++ drop (3 + l) (a ∷ b ∷ l ∷ bytes)) (sym len) in
    ap (λ xs. xs ++ l ∷ bytes) p.1.1.0 ∙ ap (λ x. 70 ∷ 88 ∷ x) whole

pub end_written_back : (rest : List ℕ) → Pass (end_checks rest) → rest ≡ end_bytes ++ drop mark_length rest
end_written_back rest p = sym (take-append-drop 2 rest) ∙ ap (λ xs. xs ++ drop 2 rest) p.1.1.0

name_length : (b : List ℕ) → 1 + byte b 0 ≤ length b → length (name_in b) ≡ byte b 0
name_length b h = length-take-le (byte b 0) (drop 1 b) (let e = length-drop 1 b in omega arith)

-- what holds of all items of a list, and of one more
pub push_all : {A : Type 0} (P : A → Type 0) (d : A) (xs : List A) (x : A) → ((k : ℕ) → k < length xs → P (get_or xs k d)) → P x → (k : ℕ) → k < length (xs ++ x ∷ []) → P (get_or (xs ++ x ∷ []) k d)
push_all P d xs x old new k h = grind (arith, common_steps, old k)

valid_with_fix : (n m : ℕ) (names : List Name) (name : Name) → IsChartPrefix n m names [] → length names < n → IsName name → IsUnused names name → IsChartPrefix n m (names ++ name ∷ []) []
valid_with_fix n m names name l room named unused =
    let long = length_push names name in
    record {
      counts_valid = l.counts_valid;
      names_fit = omega arith;
      legs_fit = l.legs_fit;
      names_valid = push_all IsName [] names name l.names_valid named;
      names_distinct = λ i j a h same. grind (arith, common_steps, unused i, l.names_distinct i j);
      rows_valid = l.rows_valid;
      legs_open = l.legs_open;
    }

valid_with_leg : (n m : ℕ) (names : List Name) (legs : List Row) (leg : Row) → IsChartPrefix n m names legs → length legs < m → IsValidRow n leg → leg.standing ≡ Open → IsChartPrefix n m names (legs ++ leg ∷ [])
valid_with_leg n m names legs leg l room sound stands =
    let long = length_push legs leg in
    record {
      counts_valid = l.counts_valid;
      names_fit = l.names_fit;
      legs_fit = omega arith;
      names_valid = l.names_valid;
      names_distinct = l.names_distinct;
      rows_valid = push_all (IsValidRow n) no_row legs leg l.rows_valid sound;
      legs_open = push_all (λ r. r.standing ≡ Open) no_row legs leg l.legs_open stands;
    }

pub prefix_with_fix : {file : List ℕ} {p n m : ℕ} {names : List Name} → HasPrefix file p n m names [] (drop p file) → length names < n → Pass (fix_checks names (drop p file)) →
    HasPrefix file (p + (name_offset + byte (body (drop p file)) 0)) n m (names ++ name_in (body (drop p file)) ∷ []) [] (drop (p + (name_offset + byte (body (drop p file)) 0)) file)
prefix_with_fix {file} {p} {n} {m} {names} b room pass =
    let name = name_in (body (drop p file)) in
    let size = name_offset + byte (body (drop p file)) 0 in
    let len = name_length (body (drop p file)) pass.1.1.1.0.1 in
    let push = file_prefix_with_fix n m names name in
    let la = length-append (file_prefix n m names []) (fix_bytes name) in
    let lp : length (file_prefix n m (names ++ name ∷ []) []) ≡ length (file_prefix n m names [] ++ fix_bytes name) = ap length push in
    record {
      valid = valid_with_fix n m names name b.valid room pass.1.1.1.1.0 pass.1.1.1.1.1.0;
      place = omega (arith, b.place);
      bytes =
          b.bytes
          ∙ ap (λ x. file_prefix n m names [] ++ x) (fix_written_back names (drop p file) pass)
          ∙ sym (append_assoc (file_prefix n m names []) (fix_bytes name) (drop size (drop p file)))
          ∙ ap (λ x. x ++ drop size (drop p file)) (sym push)
          ∙ ap (λ x. file_prefix n m (names ++ name ∷ []) [] ++ x) (drop-drop size p file);
    }

pub prefix_with_leg : {file : List ℕ} {p n m : ℕ} {names : List Name} {legs : List Row} → AreBytes (drop p file) → HasPrefix file p n m names legs (drop p file) → length legs < m → Pass (leg_checks n (drop p file)) →
    HasPrefix file (p + leg_record_length) n m names (legs ++ leg_in (body (drop p file)) ∷ []) (drop (p + leg_record_length) file)
prefix_with_leg {file} {p} {n} {m} {names} {legs} small b room pass =
    let leg = leg_in (body (drop p file)) in
    let push = file_prefix_with_leg n m names legs leg in
    let la = length-append (file_prefix n m names legs) (leg_bytes leg) in
    let lp : length (file_prefix n m names (legs ++ leg ∷ [])) ≡ length (file_prefix n m names legs ++ leg_bytes leg) = ap length push in
    record {
      valid = valid_with_leg n m names legs leg b.valid room (record { valid_times = pass.1.1.1.1.0; valid_fixes = pass.1.1.1.1.1.0 }) refl;
      place = omega (arith, b.place);
      bytes =
          b.bytes
          ∙ ap (λ x. file_prefix n m names legs ++ x) (leg_written_back n (drop p file) small pass)
          ∙ sym (append_assoc (file_prefix n m names legs) (leg_bytes leg) (drop leg_record_length (drop p file)))
          ∙ ap (λ x. x ++ drop leg_record_length (drop p file)) (sym push)
          ∙ ap (λ x. file_prefix n m names (legs ++ leg ∷ []) ++ x) (drop-drop leg_record_length p file);
    }

pub prefix_of_chart : (room : ℕ) (file : List ℕ) → AreBytes file → Pass (chart_checks room file) → HasPrefix file chart_record_length (fixes_in (body file)) (legs_in (body file)) [] [] (drop chart_record_length file)
unfolding file_prefix
prefix_of_chart room [] small p = absurd (let z = p.0 in omega arith)
prefix_of_chart room (a ∷ []) small p = absurd (let z = p.0 in omega arith)
prefix_of_chart room (a ∷ b ∷ []) small p = absurd (let z = p.1.1.1.0 in omega arith)
prefix_of_chart room (a ∷ b ∷ n ∷ []) small p = absurd (let z = p.1.1.1.0 in omega arith)
prefix_of_chart room (a ∷ b ∷ n ∷ h ∷ []) small p = absurd (let z = p.1.1.1.0 in omega arith)
prefix_of_chart room (a ∷ b ∷ n ∷ h ∷ l ∷ tail) small p = record {
  valid = record { counts_valid = p.1.1.1.1.0; names_fit = omega arith; legs_fit = omega arith; names_valid = λ j z. absurd (let y = z in omega arith); names_distinct = λ i j q z w. absurd (let y = z in omega arith); rows_valid = λ j z. absurd (let y = z in omega arith); legs_open = λ j z. absurd (let y = z in omega arith) };
  place = refl;
  bytes = ap (λ xs. xs ++ n ∷ h ∷ l ∷ tail) p.1.1.0 ∙ ap (λ xs. 67 ∷ 72 ∷ n ∷ (xs ++ tail)) (sym (two_bytes_written_back h l (small 4)));
}
