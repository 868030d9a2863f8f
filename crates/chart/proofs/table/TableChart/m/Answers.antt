use Rattle.std.proofs.Common.{arith}
use Rattle.chart.specs.Tables.{table_legs, table_rows}
use Rattle.chart.specs.laws.Tables.{length_table_rows}
use Rattle.chart.specs.laws.Rows.{length_legs}
use Rattle.chart.proofs.table.TableChart.m.Goals as goal

pub returns : goal.returns
unfolding table_legs
returns c = let t = c.args.self.now in omega (arith, length_legs (table_rows t), length_table_rows t)
