-- The bytes of a leg's record say the leg that they were made of,
-- and a record that passes the checks of a leg is made of the leg that it says.
use Rattle.std.proofs.Common.{◌≡◌, ℕ, zero, suc, ◌+◌, ◌*◌, ◌/◌, ◌%◌, ◌<◌, ◌≤◌, List, [], ◌∷◌, ◌++◌, length, drop, sym, ap, ◌∙◌, arith}
use Rattle.std.proofs.lemmas.List.{take-append-drop, get_or-drop, drop-drop, drop_more}
use Rattle.chart.specs.declared.row.Row.{Row}
use Rattle.chart.specs.declared.row.Standing.{Standing}
use Rattle.chart.specs.declared.row.Standing.TheVariants.{Open}
use Rattle.chart_format.specs.declared.record.RecordKind.TheVariants.{Leg}
use Rattle.chart_format.specs.Format.{mark, two_bytes, four_bytes, leg_bytes, leg_record_length}
use Rattle.chart_format.specs.Checks.{byte, AreBytes, Pass, body, leg_checks, leg_in}

-- a number from the bytes that it is written in
pub two_bytes_read_back : (x : ℕ) → x / 256 * 256 + x % 256 ≡ x
two_bytes_read_back x = omega arith

pub four_bytes_read_back : (x : ℕ) → x / 16777216 * 16777216 + (x / 65536) % 256 * 65536 + (x / 256) % 256 * 256 + x % 256 ≡ x
four_bytes_read_back x = omega arith

-- and the bytes from the number that they say
pub two_bytes_written_back : (a b : ℕ) → b < 256 → two_bytes (a * 256 + b) ≡ a ∷ b ∷ []
two_bytes_written_back a b h =
    let high : (a * 256 + b) / 256 ≡ a = omega arith in
    let low : (a * 256 + b) % 256 ≡ b = omega arith in
    cc

pub four_bytes_written_back : (a b c d : ℕ) → b < 256 → c < 256 → d < 256 → four_bytes (a * 16777216 + b * 65536 + c * 256 + d) ≡ a ∷ b ∷ c ∷ d ∷ []
four_bytes_written_back a b c d p q r =
    let first : (a * 16777216 + b * 65536 + c * 256 + d) / 16777216 ≡ a = omega arith in
    let second : ((a * 16777216 + b * 65536 + c * 256 + d) / 65536) % 256 ≡ b = omega arith in
    let third : ((a * 16777216 + b * 65536 + c * 256 + d) / 256) % 256 ≡ c = omega arith in
    let last : (a * 16777216 + b * 65536 + c * 256 + d) % 256 ≡ d = omega arith in
    cc

same_rows : (f t l l' h h' u u' : ℕ) (s s' : Standing) → l ≡ l' → h ≡ h' → u ≡ u' → s ≡ s' → ◌≡◌ {A = Row} (record { from = f; to = t; low = l; high = h; top = u; standing = s }) (record { from = f; to = t; low = l'; high = h'; top = u'; standing = s' })
same_rows f t l l' h h' u u' s s' p q r e = cc

-- an open leg from its bytes
pub leg_read_back : (leg : Row) → leg.standing ≡ Open → (x : List ℕ) → leg_in (body (leg_bytes leg ++ x)) ≡ leg
leg_read_back leg is_open x = same_rows leg.from leg.to _ leg.low _ leg.high _ leg.top Open leg.standing (four_bytes_read_back leg.low) (four_bytes_read_back leg.high) (two_bytes_read_back leg.top) (sym is_open)

-- the k bytes from the place i on, one by one
spelled : List ℕ → ℕ → ℕ → List ℕ
spelled xs i zero = []
spelled xs i (suc k) = byte xs i ∷ spelled xs (i + 1) k

spell : (xs : List ℕ) (i k : ℕ) → i + k ≤ length xs → drop i xs ≡ spelled xs i k ++ drop (i + k) xs
unfolding spelled
spell xs i zero h = ap (λ j. drop j xs) (omega arith)
spell xs i (suc k) h =
    drop_more xs i 0 (omega arith)
    ∙ ap (λ ys. byte xs i ∷ ys) (spell xs (i + 1) k (omega arith) ∙ ap (λ j. spelled xs (i + 1) k ++ drop j xs) (omega arith))

-- and the bytes from the leg that they say
pub leg_written_back : (n : ℕ) (rest : List ℕ) → AreBytes rest → Pass (leg_checks n rest) → rest ≡ leg_bytes (leg_in (body rest)) ++ drop leg_record_length rest
unfolding spelled
leg_written_back n rest small p =
    sym (take-append-drop 2 rest)
    ∙ ap (λ xs. xs ++ b) p.1.1.0
    ∙ ap (λ xs. mark Leg ++ xs) (spell b 0 12 p.1.1.1.0 ∙ ap (λ xs. spelled b 0 12 ++ xs) (drop-drop 12 2 rest))
    ∙ sym (same_parts _ _ _ _ _ _
    (four_bytes_written_back (byte b 2) (byte b 3) (byte b 4) (byte b 5) (below 3) (below 4) (below 5))
    (four_bytes_written_back (byte b 6) (byte b 7) (byte b 8) (byte b 9) (below 7) (below 8) (below 9))
    (two_bytes_written_back (byte b 10) (byte b 11) (below 11)))
  where
    b : List ℕ
    b = body rest

    first_bytes : List ℕ
    first_bytes = mark Leg ++ byte b 0 ∷ byte b 1 ∷ []

    below : (i : ℕ) → byte b i < 256
    below i = rw get_or-drop (small (2 + i))

    same_parts : (l l' h h' t t' : List ℕ) → l ≡ l' → h ≡ h' → t ≡ t' → first_bytes ++ (l ++ (h ++ (t ++ drop leg_record_length rest))) ≡ first_bytes ++ (l' ++ (h' ++ (t' ++ drop leg_record_length rest)))
    same_parts l l' h h' t t' p q r = cc
