use Rattle.std.proofs.Common.{refl}
use Rattle.chart.specs.Tables.{table_legs}
use Rattle.chart.proofs.LegsOfRows.{taken_rows_given_back}
use Rattle.chart.proofs.table.Table.take_rows.Goals as goal

pub returns-clause-takes_exactly_its_rows : goal.returns-clause-takes_exactly_its_rows
unfolding table_legs
returns-clause-takes_exactly_its_rows c =
    let ok = c.in_ok-count.ensures in
    (refl, taken_rows_given_back c.args.n c.in_ok-count.count c.args.self.now.rows.now ok.0 ok.2)
