use Rattle.std.proofs.Common.{arith}
use Rattle.worked_examples.proofs.AllExamples.{is_row, same_rows, rows_have_all_examples}
use Rattle.worked_examples.proofs.four_fix_rows.Goals as goal

pub returns : goal.returns
returns c =
    let same =
    same_rows
    (is_row c.open.ensures (omega arith) (omega arith) (omega arith) (omega arith) (omega arith))
    (is_row c.open-2.ensures (omega arith) (omega arith) (omega arith) (omega arith) (omega arith))
    (is_row c.open-3.ensures (omega arith) (omega arith) (omega arith) (omega arith) (omega arith))
    (is_row c.open-4.ensures (omega arith) (omega arith) (omega arith) (omega arith) (omega arith))
    (is_row c.open-5.ensures (omega arith) (omega arith) (omega arith) (omega arith) (omega arith)) in
    record { rows = same; worked = rows_have_all_examples _ same }
