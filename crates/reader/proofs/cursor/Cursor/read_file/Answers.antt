use Rattle.std.proofs.Common.{◌++◌, drop, sym, ap, ◌∙◌, arith}
use Rattle.reader.specs.internal.RecordPlaces.{legs_at}
use Rattle.reader.proofs.FaultPassedOn.{fault_passed_on}
use Rattle.reader.proofs.MemoryFilled.{front_filled}
use Rattle.reader.proofs.NamesAt.{names_length}
use Rattle.reader.proofs.AfterRecords.{legs_length}
use Rattle.reader.proofs.cursor.Cursor.read_file.Goals as goal

pub returns-in_err-checked : goal.returns-in_err-checked
returns-in_err-checked c =
    let h = c.in_err-checked.ensures in
    fault_passed_on c.from_residual.result _ _ c.from_residual.ensures.1 (h.0, h.1, grind arith)

pub returns : goal.returns
returns c =
    let h = c.in_ok-checked.ensures in
    let file = c.args.file.now in
    let checked = c.in_ok-checked.checked in
    let legs = legs_at file checked.base checked.counts.legs in
    let count = legs_length file checked.base checked.counts.legs in
    let names = names_length file c.check_file.new.starts.items in (
      record {
        chart = record {
          legs = legs;
          means = h.0.means;
          fixes = omega (arith, h.0.whole);
          count = omega (arith, count);
        };
        room = omega (arith, count, h.0.fits);
        filled = front_filled file checked.base c.args.memory.now c.fill.ensures (omega arith) h.0.fits ∙ ap (λ k. legs ++ drop k c.args.memory.now) (sym count);
      },
      h.0.bodies,
      h.0.indexed,
      h.1,
    )
