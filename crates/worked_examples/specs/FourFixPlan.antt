-- The plan of the four-fix chart from its first fix to its last, amended in succession: what each amendment is answered, by the
-- definitions of ledgers, and which routes are left.
use Rattle.std.specs.Prelude.{◌≡◌, ℕ, List, [], ◌∷◌}
use Rattle.chart.specs.declared.row.Row.{Row}
use Rattle.chart.specs.Outcomes.{values, refused}
use Rattle.chart.specs.Regret.{IsRoute, IsLeastRegret}
use Rattle.plan.specs.declared.amendment.Change.TheVariants.{Close, Times, Restore}
use Rattle.plan.specs.declared.amendment.Amendment.{Amendment}
use Rattle.plan.specs.Ledgers.{Ledger, at_filing, query_of, outcome_on, ledger_after}
use Rattle.worked_examples.specs.FourFix.{legs_of_rows, closed}

-- the ledger at filing
abbrev pub filed : List Row → Ledger
filed rows = at_filing (legs_of_rows rows) (record { from = 0; to = 3 })

-- leg 4 is closed at revision 0
abbrev pub close_4 : Amendment
close_4 = record { revision = 0; leg = 4; change = Close }

-- then leg 0 is to have a low time above its high one
abbrev pub mistime_0 : Amendment
mistime_0 = record { revision = 1; leg = 0; change = Times (record { low = 500; high = 400 }) }

-- then it has the times that it has in the chart
abbrev pub time_0 : Amendment
time_0 = record { revision = 1; leg = 0; change = Times (record { low = 300; high = 400 }) }

-- then leg 4 is to be the chart's own again, at a revision that is past
abbrev pub restore_4 : Amendment
restore_4 = record { revision = 1; leg = 4; change = Restore }

-- the ledger after the first of these four, and after each of the others
abbrev pub after_first : List Row → Ledger
after_first rows = ledger_after (legs_of_rows rows) (filed rows) close_4

abbrev pub after_second : List Row → Ledger
after_second rows = ledger_after (legs_of_rows rows) (after_first rows) mistime_0

abbrev pub after_third : List Row → Ledger
after_third rows = ledger_after (legs_of_rows rows) (after_second rows) time_0

abbrev pub after_fourth : List Row → Ledger
after_fourth rows = ledger_after (legs_of_rows rows) (after_third rows) restore_4

-- leg 1 is closed at filing instead, and then leg 3
abbrev pub close_1 : Amendment
close_1 = record { revision = 0; leg = 1; change = Close }

abbrev pub close_3 : Amendment
close_3 = record { revision = 1; leg = 3; change = Close }

abbrev pub without_1 : List Row → Ledger
without_1 rows = ledger_after (legs_of_rows rows) (filed rows) close_1

abbrev pub without_1_and_3 : List Row → Ledger
without_1_and_3 rows = ledger_after (legs_of_rows rows) (without_1 rows) close_3

-- the four are answered 1, refused with 8, answered 2 and refused with 21, and the plan is then at revision 2;
-- with leg 4 closed the route is 0, 1, as on the chart with that leg closed; with legs 1 and 3 closed there is none
pub record FourFixAmended (rows : List Row) : Type 0 where
  pub first : outcome_on (filed rows) close_4 ≡ values (1 ∷ [])
  pub second : outcome_on (after_first rows) mistime_0 ≡ refused 8
  pub third : outcome_on (after_second rows) time_0 ≡ values (2 ∷ [])
  pub fourth : outcome_on (after_third rows) restore_4 ≡ refused 21
  pub revision : (after_fourth rows).revision ≡ 2
  pub legs_without_4 : (after_first rows).legs ≡ legs_of_rows (closed rows 4)
  pub route_without_4 : IsLeastRegret (query_of (after_first rows)) (0 ∷ 1 ∷ []) 450
  pub closes_1 : outcome_on (filed rows) close_1 ≡ values (1 ∷ [])
  pub closes_3 : outcome_on (without_1 rows) close_3 ≡ values (2 ∷ [])
  pub no_route_without_1_and_3 : (q : List ℕ) → IsRoute (query_of (without_1_and_3 rows)) q → ⊥
