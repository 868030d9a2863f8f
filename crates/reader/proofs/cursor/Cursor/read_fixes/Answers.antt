use Rattle.std.proofs.Common.{arith}
use Rattle.reader.proofs.FaultPassedOn.{fault_passed_on}
use Rattle.reader.proofs.AfterRecords.{after_names_more, fault_at_fix}
use Rattle.reader.proofs.cursor.Cursor.read_fixes.Goals as goal

pub returns-in_err-read_fix : goal.returns-in_err-read_fix
returns-in_err-read_fix c =
    let h = rw c.as_slice.ensures.value at c.in_err-read_fix.ensures in
    fault_passed_on c.from_residual.result _ _ c.from_residual.ensures.1
    (fault_at_fix c.loop.invariant.after_names (omega (arith, c.loop.invariant.count)) h)

pub loop-preserved : goal.loop-preserved
loop-preserved c =
    let h = rw c.as_slice.ensures.value at c.in_ok-read_fix.ensures in
    record {
      after_names = rw c.push.ensures.items (after_names_more c.loop.invariant.after_names (omega (arith, c.loop.invariant.count)) h.0 h.1);
      count = omega (arith, c.push.ensures.len, c.loop.invariant.count);
    }
