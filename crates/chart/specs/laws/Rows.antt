-- The proofs that valid rows are the legs of a chart. There is nothing here to believe:
-- it stands among the definitions since the charts themselves cite it.
use Rattle.std.specs.Prelude.{◌≡◌, ℕ, ◌<◌, ◌≤◌, ◌⊎◌, List, map, length, ◌≢◌}
use Rattle.std.proofs.Math.Path.{sym, ap, fun_ext}
use Rattle.std.proofs.Common.{subst, ◌∙◌, inl, inr, arith}
use Rattle.std.proofs.Math.Bridge.{le_prop}
use Rattle.std.proofs.Math.Decide.{dec_le}
use Rattle.std.proofs.lemmas.List.{length-map, get_or-map}
use Rattle.std.proofs.lemmas.Bool.{cases_eq}
use Rattle.chart.specs.declared.row.Row.{Row}
use Rattle.chart.specs.declared.leg.Leg.{Leg}
use Rattle.chart.specs.Limits.{max_seconds, max_level}
use Rattle.chart.specs.Legs.{leg_at, no_leg, IsChart}
use Rattle.chart.specs.Rows.{row_of_leg, row_at, no_row, leg_within, leg_by, leg_of, IsValidRow, AreValidRows, HasValidCounts}

module _ (r : Row) (a : r.from ≢ r.to) (o : r.low ≤ r.high) (b : r.high ≤ max_seconds) (l : r.top ≤ max_level) where
  within_alike : (a' : r.from ≢ r.to) (o' : r.low ≤ r.high) (b' : r.high ≤ max_seconds) (l' : r.top ≤ max_level) →
      leg_within r a' o' b' l' ≡ leg_within r a o b l
  within_alike a' o' b' l' =
      ap (λ x. leg_within r x o' b' l') (fun_ext (λ e. absurd (a e)))
      ∙ ap (λ x. leg_within r a x b' l') (le_prop o' o)
      ∙ ap (λ x. leg_within r a o x l') (le_prop b' b)
      ∙ ap (λ x. leg_within r a o b x) (le_prop l' l)

  leg_by_is_within : (x : (r.from ≡ r.to) ⊎ (r.from ≢ r.to)) (y : Dec (r.low ≤ r.high)) (z : Dec (r.high ≤ max_seconds)) →
      (w : Dec (r.top ≤ max_level)) → leg_by r x y z w ≡ leg_within r a o b l
  unfolding leg_by
  leg_by_is_within (inl e) y z w = absurd (a e)
  leg_by_is_within (inr a') (no n) z w = absurd (n o)
  leg_by_is_within (inr a') (yes o') (no n) w = absurd (n b)
  leg_by_is_within (inr a') (yes o') (yes b') (no n) = absurd (n l)
  leg_by_is_within (inr a') (yes o') (yes b') (yes l') = within_alike a' o' b' l'

  -- a leg with the numbers of a row is the leg of the row
  pub leg_of_row : leg_within r a o b l ≡ leg_of r
  unfolding leg_of
  leg_of_row =
      sym
      (leg_by_is_within (cases_eq r.from r.to) (dec_le r.low r.high) (dec_le r.high max_seconds) (dec_le r.top max_level))

  pub row_of_leg_of : row_of_leg (leg_of r) ≡ r
  row_of_leg_of = ap row_of_leg (sym leg_of_row)

pub row_of_leg_of_valid : (n : ℕ) (r : Row) → IsValidRow n r → row_of_leg (leg_of r) ≡ r
row_of_leg_of_valid n r s = row_of_leg_of r s.valid_fixes.apart s.valid_times.ordered s.valid_times.bounded s.valid_times.level

module _ (rows : List Row) where
  pub length_legs : length (map leg_of rows) ≡ length rows
  length_legs = length-map rows leg_of

  pub leg_at_legs : (k : ℕ) → k < length rows → leg_at (map leg_of rows) k ≡ leg_of (row_at rows k)
  unfolding leg_at
  leg_at_legs k h = get_or-map leg_of rows k no_row no_leg h

-- rows that are all valid are the legs of a chart
pub rows_are_chart : (n : ℕ) (rows : List Row) → HasValidCounts n (length rows) → AreValidRows n rows (length rows) →
    IsChart n (map leg_of rows)
rows_are_chart n rows c s = record {
  least = c.least;
  most = c.most;
  few = omega (arith, length_legs rows, c.few);
  leaves = λ k h.
      let b : k < length rows = omega (arith, length_legs rows) in
      let same = row_of_leg_of_valid n (row_at rows k) (s k b) in
      let from = ap (λ (l : Leg). l.from) (leg_at_legs rows k b) ∙ ap (λ (r : Row). r.from) same in
      subst (λ x. x < n) (sym from) (s k b).valid_fixes.leaves;
  enters = λ k h.
      let b : k < length rows = omega (arith, length_legs rows) in
      let same = row_of_leg_of_valid n (row_at rows k) (s k b) in
      let to = ap (λ (l : Leg). l.to) (leg_at_legs rows k b) ∙ ap (λ (r : Row). r.to) same in
      subst (λ x. x < n) (sym to) (s k b).valid_fixes.enters;
}
