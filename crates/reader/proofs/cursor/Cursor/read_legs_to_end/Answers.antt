use Rattle.std.proofs.Common.{arith, length-drop}
use Rattle.reader.proofs.FaultPassedOn.{fault_passed_on}
use Rattle.reader.proofs.AfterRecords.{fault_at_end, fault_after_end, read_whole}
use Rattle.reader.proofs.cursor.Cursor.read_legs_to_end.Goals as goal

pub returns-in_err-read_end : goal.returns-in_err-read_end
returns-in_err-read_end c =
    fault_passed_on c.from_residual-in_err-read_end.result _ _ c.from_residual-in_err-read_end.ensures.1
    (λ names l. fault_at_end (c.in_ok-read_legs.ensures.after_legs names l) c.in_err-read_end.ensures)

pub returns-then-place-file : goal.returns-then-place-file
returns-then-place-file c names l =
    let h = c.in_ok-read_end.ensures in
    fault_after_end (c.in_ok-read_legs.ensures.after_legs names l) h.1 h.0 c.if-place-file.true

pub returns : goal.returns
returns c =
    let h = c.in_ok-read_end.ensures in
    let a = c.in_ok-read_legs.ensures in
    let dl = length-drop c.read_legs.new.self.place c.args.file.now in
    record {
      means = λ names l. read_whole (a.after_legs names l) h.1 h.0 (omega (arith, c.if-place-file.false));
      within = omega (arith, a.inside, a.read_to);
      end = omega (arith, h.1, h.0.0, a.inside, c.if-place-file.false);
    }
