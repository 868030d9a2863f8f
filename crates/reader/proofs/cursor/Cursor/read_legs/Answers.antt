use Rattle.std.proofs.Common.{drop, arith, length-drop}
use Rattle.reader.proofs.FaultPassedOn.{fault_passed_on}
use Rattle.reader.proofs.AfterRecords.{after_legs_more, fault_at_leg}
use Rattle.reader.proofs.cursor.Cursor.read_legs.Goals as goal

pub returns-in_err-read_leg : goal.returns-in_err-read_leg
returns-in_err-read_leg c =
    fault_passed_on c.from_residual.result _ _ c.from_residual.ensures.1
    (λ names l. fault_at_leg (c.loop.invariant.after_legs names l) c.loop-test.true c.in_err-read_leg.ensures)

pub loop-preserved : goal.loop-preserved
loop-preserved c =
    let h = c.in_ok-read_leg.ensures in
    let file = c.args.file.now in
    let a = c.loop.invariant in
    let dl = length-drop c.loop.self.place file in
    let db = length-drop 2 (drop c.loop.self.place file) in
    record {
      inside = omega (arith, h.1, h.0.1.1.1.0);
      read_to = omega (arith, h.1, a.read_to);
      after_legs = λ names l. after_legs_more (a.after_legs names l) c.loop-test.true c.requires.bytes h.0 h.1;
    }
