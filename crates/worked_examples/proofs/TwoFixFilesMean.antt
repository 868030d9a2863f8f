-- The three small files, read by the definitions: the file of two fixes is their chart's,
-- the cut one is short, and the other has a name twice.
use Rattle.std.proofs.Common.{◌≡◌, ℕ, zero, suc, ◌<◌, List, [], ◌∷◌, get_or, drop, refl, ap, inl, inr, arith}
use Rattle.chart_format.specs.declared.record.RecordKind.TheVariants.{Fix}
use Rattle.chart_format.specs.Format.{IsNameByte, IsName, IsChartPrefix, name_at, file_prefix}
use Rattle.chart_format.specs.Faults.{at_fix, at_end}
use Rattle.worked_examples.specs.TwoFix.{aa, bb, repeated_file, TwoFixFiles}

letters : (a b : ℕ) → IsNameByte a → IsNameByte b → (i : ℕ) → i < 2 → IsNameByte (get_or (a ∷ b ∷ []) i 0)
letters a b p q zero h = p
letters a b p q (suc zero) h = q
letters a b p q (suc (suc i)) h = absurd (omega arith)

aa_is_name : IsName aa
aa_is_name = record { least = omega arith; most = omega arith; bytes = letters 0x41 0x41 (inl (omega arith, omega arith)) (inl (omega arith, omega arith)) }

bb_is_name : IsName bb
bb_is_name = record { least = omega arith; most = omega arith; bytes = letters 0x42 0x42 (inl (omega arith, omega arith)) (inl (omega arith, omega arith)) }

differ : aa ≡ bb → ⊥
differ e = let z : ◌≡◌ {A = ℕ} 0x41 0x42 = ap (λ (xs : List ℕ). get_or xs 0 0) e in omega arith

both_are_names : (j : ℕ) → j < 2 → IsName (name_at (aa ∷ bb ∷ []) j)
both_are_names zero h = aa_is_name
both_are_names (suc zero) h = bb_is_name
both_are_names (suc (suc j)) h = absurd (omega arith)

both_distinct : (i j : ℕ) → i < j → j < 2 → name_at (aa ∷ bb ∷ []) i ≡ name_at (aa ∷ bb ∷ []) j → ⊥
both_distinct zero zero a h e = omega arith
both_distinct zero (suc zero) a h e = differ e
both_distinct zero (suc (suc j)) a h e = omega arith
both_distinct (suc i) j a h e = omega arith

one_is_name : (j : ℕ) → j < 1 → IsName (name_at (aa ∷ []) j)
one_is_name zero h = aa_is_name
one_is_name (suc j) h = absurd (omega arith)

both_valid : IsChartPrefix 2 0 (aa ∷ bb ∷ []) []
both_valid = record { counts_valid = omega arith; names_fit = omega arith; legs_fit = omega arith; names_valid = both_are_names; names_distinct = both_distinct; rows_valid = λ k h. absurd (omega arith); legs_open = λ k h. absurd (omega arith) }

one_valid : IsChartPrefix 2 0 (aa ∷ []) []
one_valid = record { counts_valid = omega arith; names_fit = omega arith; legs_fit = omega arith; names_valid = one_is_name; names_distinct = λ i j a h e. omega arith; rows_valid = λ k h. absurd (omega arith); legs_open = λ k h. absurd (omega arith) }

pub two_fix_files : TwoFixFiles
unfolding file_prefix
two_fix_files = record {
  accepted = record { valid = both_valid; bytes = refl };
  short = λ room. record {
    has_fault = at_end 2 0 (aa ∷ bb ∷ []) [] (0x45 ∷ []) (record { valid = both_valid; bytes = refl; place = refl }) (omega arith) refl refl (inl ((λ h. omega arith), refl));
    in_layer = inl refl;
  };
  twice = λ room. record {
    has_fault = at_fix 2 0 (aa ∷ []) (drop 10 repeated_file) (record { valid = one_valid; bytes = refl; place = refl }) (omega arith) (omega arith)
        (inr (omega arith, inr ((Fix, refl), inr (refl, inr ((omega arith, omega arith), inr (aa_is_name, inl ((λ unused. unused 0 (omega arith) refl), refl)))))));
    in_layer = inr (inl refl);
  };
}
