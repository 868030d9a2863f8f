-- What `split_once` gives at an ASCII character.
use Rattle.std.proofs.Common.{◌≡◌, ℕ, ◌<◌, ◌==◌, List, Contains, Option, Some, Bor, sym, arith}
use Rattle.std.specs.List.{before_first, after_first}
use Rattle.std.proofs.lemmas.List.Sums.{passes_at_first}
use Rattle.std.proofs.lemmas.Bool.Decides.{nat_tests}
use Rattle.std.proofs.lemmas.Str.Pattern.{IsSplitOnceResult, split_once_first}

pub record IsCut (code : ℕ) (text front back : List ℕ) : Type 0 where
  pub found : Contains text code
  pub front_is : before_first (λ b. b == code) text ≡ front
  pub back_is : after_first (λ b. b == code) text ≡ back

module _ (code : ℕ) (ascii : code < 128) (text : List ℕ) (r : Option (Bor (List ℕ) × Bor (List ℕ))) (split : IsSplitOnceResult code text r) where
  pub cut : (x : Bor (List ℕ) × Bor (List ℕ)) → r ≡ Some x → IsCut code text x.0.now x.1.now
  cut x is =
      let (inside, front, back) = rw is at (split_once_first code text r split ascii) in
      let there = passes_at_first (λ b. b == code) text code inside in
      record { found = (_, inside, grind (arith, nat_tests)); front_is = sym front; back_is = sym back }
