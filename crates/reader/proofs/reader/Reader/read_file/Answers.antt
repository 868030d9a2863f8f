use Rattle.std.proofs.Common.{arith}
use Rattle.reader.specs.Readings.{names_of}
use Rattle.reader.proofs.FaultPassedOn.{fault_passed_on}
use Rattle.reader.proofs.NamesAt.{names_length}
use Rattle.reader.proofs.reader.Reader.read_file.Goals as goal

pub read_file-requires-clause-bytes : goal.read_file-requires-clause-bytes
read_file-requires-clause-bytes c = c.args.self.now.of_bytes

pub returns-in_err-checked-clause-reads_the_chart_or_tells_the_fault : goal.returns-in_err-checked-clause-reads_the_chart_or_tells_the_fault
unfolding names_of
returns-in_err-checked-clause-reads_the_chart_or_tells_the_fault c =
    let h = c.in_err-checked.ensures in
    fault_passed_on c.from_residual.result _ _ c.from_residual.ensures.1 (h.0, h.1, (grind arith, grind arith), h.2)

pub invariant_of-self-2-clause-most : goal.invariant_of-self-2-clause-most
invariant_of-self-2-clause-most c =
    let most = c.in_ok-checked.ensures.0.chart.means.valid.counts_valid.most in
    omega (arith, names_length c.args.self.now.file.now c.read_file.new.starts.items, most)

pub returns-clause-reads_the_chart_or_tells_the_fault : goal.returns-clause-reads_the_chart_or_tells_the_fault
unfolding names_of
returns-clause-reads_the_chart_or_tells_the_fault c =
    let h = c.in_ok-checked.ensures in
    (h.0, h.3)
