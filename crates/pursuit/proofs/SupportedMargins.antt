-- Margins that the next move keeps: none, smaller ones, and all of a table.
use Rattle.std.proofs.Common.{◌≡◌, ℕ, ◌+◌, ◌*◌, ◌<◌, ◌≤◌, true, List, replicate, sym, ◌∙◌, ⊎_elim, arith}
use Rattle.std.proofs.Math.Dec.{leb}
use Rattle.std.proofs.lemmas.Bool.{cases_lt, leb-true}
use Rattle.chart.specs.Regret.{Query}
use Rattle.pursuit.specs.Pursuits.{IsSupported, EveryLegRises, IsMarginTable}
use Rattle.pursuit.specs.Answers.{margin_at}
use Rattle.pursuit.specs.declared.margins.TheConstants.{PURSUIT_FIXES}
use Rattle.pursuit.specs.internal.Margins.{IsEachSupported}
use Rattle.pursuit.proofs.ReadLegs.{all_equal, margin_there, margin_past_route, margin_past_rival}
use Rattle.pursuit.proofs.LegLoops.{route_less, countermove_less}

module _ (t : Query) (height : ℕ → ℕ) (offset : ℕ) (margin : ℕ → ℕ → ℕ) (a b : ℕ) where
  -- a margin of 0 needs no support
  pub none_supports : (x : ℕ) → x ≡ 0 → IsSupported t height offset margin a b x
  none_supports x z = record {
    both_arrived = λ p q. omega arith;
    rival_past = λ p n l. z;
    route_moves = λ n l k there from one. absurd (omega arith);
    rival_moves = λ lt within one. absurd (omega arith);
    both_move = λ s k there from one. absurd (omega arith);
  }

  -- a smaller margin is kept too
  less_supports : (x y : ℕ) → y ≤ x → IsSupported t height offset margin a b x → IsSupported t height offset margin a b y
  less_supports x y le s = record {
    both_arrived = λ p q. let h = s.both_arrived p q in omega arith;
    rival_past = λ p n l. let h = s.rival_past p n l in omega arith;
    route_moves = λ n l k there from. route_less t margin b x y k le (s.route_moves n l k there from);
    rival_moves = λ lt within one.
        let m = s.rival_moves lt within (omega arith) in
        (m.0, m.1, λ o. let k = m.2 (omega arith) in (k.0, omega (arith, k.1)));
    both_move = λ p k there from. countermove_less t margin a x y k le (s.both_move p k there from);
  }

  -- a margin that passed a test by ≤ is kept
  pub tested_is_supported : (x y : ℕ) → x ≡ margin a b → IsSupported t height offset margin a b y → leb x y ≡ true → IsSupported t height offset margin a b (margin a b)
  tested_is_supported x y e s le = less_supports y (margin a b) (let l = leb-true x y le in omega arith) s

-- a table in a list, whose rows and columns past the end have no margin
module _ (t : Query) (height : ℕ → ℕ) (offset fixes : ℕ) (margins : List ℕ) where
  pub margin_table_from_rows : EveryLegRises t height → IsEachSupported fixes t height offset (margin_at fixes margins) → IsMarginTable t height offset (margin_at fixes margins)
  margin_table_from_rows rises each = record {
    rises = rises;
    supported = λ a b.
        ⊎_elim
        (λ (p : a < fixes). ⊎_elim (λ (q : b < fixes). each a p b q) (λ (q : fixes ≤ b). none_supports t height offset (margin_at fixes margins) a b _ (sym (margin_past_rival fixes margins a b p q))) (cases_lt b fixes))
        (λ (p : fixes ≤ a). none_supports t height offset (margin_at fixes margins) a b _ (sym (margin_past_route fixes margins a b p)))
        (cases_lt a fixes);
  }

-- a table of zeros, which has no margin
module _ (fixes n : ℕ) where
  no_margin : (a b : ℕ) → ◌≡◌ {A = ℕ} (margin_at fixes (replicate n 0) a b) 0
  no_margin a b =
      ⊎_elim
      (λ (p : a < fixes). ⊎_elim (λ (q : b < fixes). sym (margin_there fixes (replicate n 0) a b p q) ∙ all_equal 0 n (PURSUIT_FIXES * a + b)) (λ (q : fixes ≤ b). sym (margin_past_rival fixes (replicate n 0) a b p q)) (cases_lt b fixes))
      (λ (p : fixes ≤ a). sym (margin_past_route fixes (replicate n 0) a b p))
      (cases_lt a fixes)

  pub zeros_supported : (t : Query) (height : ℕ → ℕ) (offset : ℕ) → IsEachSupported fixes t height offset (margin_at fixes (replicate n 0))
  zeros_supported t height offset a small b little = none_supports t height offset (margin_at fixes (replicate n 0)) a b _ (no_margin a b)
