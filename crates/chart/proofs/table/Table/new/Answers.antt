use Rattle.std.proofs.Common.{refl, arith}
use Rattle.chart.specs.Tables.{table_legs}
use Rattle.chart.proofs.table.Table.new.Goals as goal

pub returns : goal.returns
unfolding table_legs
returns c = record { keeps_rows = refl; empty = (omega arith, refl) }
