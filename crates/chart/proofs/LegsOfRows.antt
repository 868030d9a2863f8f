-- The legs that rows make, one by one, and the rows that they came from.
use Rattle.std.proofs.Common.{◌≡◌, ℕ, suc, ◌<◌, ◌≤◌, List, [], ◌∷◌, map, length, take, Some, None, refl, ap, ◌∙◌, arith}
use Rattle.std.proofs.lemmas.List.{take_all}
use Rattle.chart.specs.declared.row.Row.{Row}
use Rattle.chart.specs.Legs.{leg_get}
use Rattle.chart.specs.Rows.{row_of_leg, row_at, leg_of, AreValidRows}
use Rattle.chart.specs.declared.leg.Leg.{Leg}
use Rattle.chart.specs.laws.Rows.{leg_of_row, row_of_leg_of_valid, length_legs, leg_at_legs}
use Rattle.chart.proofs.LegsByNumber.{leg_get_there, leg_get_past}

module _ (rows : List Row) where
  pub leg_get_legs : (k : ℕ) → k < length rows → leg_get (map leg_of rows) k ≡ Some (leg_of (row_at rows k))
  leg_get_legs k h = leg_get_there (map leg_of rows) k (omega (arith, length_legs rows)) ∙ ap Some (leg_at_legs rows k h)

  pub no_leg_past : (k : ℕ) → length rows ≤ k → leg_get (map leg_of rows) k ≡ None
  no_leg_past k h = leg_get_past (map leg_of rows) k (omega (arith, length_legs rows))

-- the legs of valid rows have the numbers of the rows
pub legs_give_rows_back : (n : ℕ) (rows : List Row) → AreValidRows n rows (length rows) → map row_of_leg (map leg_of rows) ≡ rows
legs_give_rows_back n [] s = refl
legs_give_rows_back n (r ∷ rows) s =
    ap (λ x. x ∷ map row_of_leg (map leg_of rows)) (row_of_leg_of_valid n r (s 0 (omega arith)))
    ∙ ap (λ xs. r ∷ xs) (legs_give_rows_back n rows (λ k h. s (suc k) (omega arith)))

-- a leg is the leg of its own numbers
pub leg_of_row_of_leg : (l : Leg) → l ≡ leg_of (row_of_leg l)
leg_of_row_of_leg l = leg_of_row (row_of_leg l) l.apart l.ordered l.bounded l.level

-- all the rows, taken
pub taken_rows_given_back : (n m : ℕ) (rows : List Row) → m ≡ length rows → AreValidRows n rows m → map row_of_leg (map leg_of (take m rows)) ≡ rows
taken_rows_given_back n m rows e sound =
    ap (λ xs. map row_of_leg (map leg_of xs)) (take_all m rows (omega arith))
    ∙ legs_give_rows_back n rows (λ k h. sound k (omega arith))
