-- The ledgers of the four-fix chart's plan, computed, and the routes on its legs.
use Rattle.std.proofs.Common.{◌≡◌, ℕ, ◌<◌, [], ◌∷◌, slice_set, refl, ap, sym, subst, arith}
use Rattle.chart.specs.declared.row.Row.{Row}
use Rattle.chart.specs.declared.row.Standing.TheVariants.{Open, Closed}
use Rattle.chart.specs.Legs.{leg_at}
use Rattle.chart.specs.Rows.{leg_of, row_at}
use Rattle.chart.specs.Regret.{query, IsRoute, IsLeastRegret}
use Rattle.plan.specs.declared.amendment.Change.TheVariants.{Close}
use Rattle.plan.specs.Amendments.{changed_leg}
use Rattle.plan.specs.Ledgers.{grounds, outcome_on, ledger_after}
use Rattle.worked_examples.specs.FourFix.{four_fix_rows, legs_of_rows, closed}
use Rattle.worked_examples.specs.FourFixPlan.{after_first, without_1_and_3, FourFixAmended}
use Rattle.worked_examples.proofs.FourFixLegs.{legs_with, leg_is}
use Rattle.worked_examples.proofs.FourFixAnswers.{four_fix_closed}

-- a leg of the chart, closed
closing : (k : ℕ) → k < 5 → changed_leg (leg_at (legs_of_rows four_fix_rows) k) (leg_at (legs_of_rows four_fix_rows) k) Close ≡ leg_of (record (row_at four_fix_rows k) { standing = Closed })
unfolding changed_leg legs_with
closing k h = ap (λ (r : Row). leg_of (record r { standing = Closed })) (leg_is Open Open Open Open Open k h)

without_4 : (after_first four_fix_rows).legs ≡ legs_of_rows (closed four_fix_rows 4)
unfolding ledger_after grounds
without_4 = ap (λ l. slice_set (legs_of_rows four_fix_rows) 4 l) (closing 4 (omega arith))

without_both : (without_1_and_3 four_fix_rows).legs ≡ legs_of_rows (closed (closed four_fix_rows 1) 3)
unfolding ledger_after grounds leg_at
without_both = λ i. slice_set (slice_set (legs_of_rows four_fix_rows) 1 (closing 1 (omega arith) i)) 3 (closing 3 (omega arith) i)

pub four_fix_amended : FourFixAmended four_fix_rows
unfolding outcome_on ledger_after grounds
four_fix_amended = record {
  first = refl;
  second = refl;
  third = refl;
  fourth = refl;
  revision = refl;
  legs_without_4 = without_4;
  route_without_4 = subst (λ ls. IsLeastRegret (query ls 0 3) (0 ∷ 1 ∷ []) 450) (sym without_4) four_fix_closed.without_leg_4;
  closes_1 = refl;
  closes_3 = refl;
  no_route_without_1_and_3 = λ q f. four_fix_closed.without_legs_1_and_3 q (subst (λ ls. IsRoute (query ls 0 3) q) without_both f);
}
