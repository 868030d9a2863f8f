use Rattle.std.proofs.Common.{◌∙◌, refl, arith}
use Rattle.reader.specs.Readings.{indexed_names}
use Rattle.reader.proofs.FaultPassedOn.{fault_passed_on}
use Rattle.reader.proofs.NamesAt.{names_length, names_of_chart}
use Rattle.reader.proofs.file_index.FileIndex.read.Goals as goal

pub returns-in_err-checked-clause-reads_the_chart_or_tells_the_fault : goal.returns-in_err-checked-clause-reads_the_chart_or_tells_the_fault
returns-in_err-checked-clause-reads_the_chart_or_tells_the_fault c =
    let h = rw c.as_slice.ensures.value at c.in_err-checked.ensures in
    fault_passed_on c.from_residual.result _ _ c.from_residual.ensures.1 (h.0, h.2)

pub invariant_of-result-clause-most : goal.invariant_of-result-clause-most
invariant_of-result-clause-most c =
    let h = rw c.as_slice.ensures.value at c.in_ok-checked.ensures in
    omega (arith, names_length c.args.file.items c.read_file.new.starts.items, h.0.chart.means.valid.counts_valid.most)

pub invariant_of-result-clause-bodies : goal.invariant_of-result-clause-bodies
invariant_of-result-clause-bodies c = (rw c.as_slice.ensures.value at c.in_ok-checked.ensures).1

pub invariant_of-result-clause-indexed : goal.invariant_of-result-clause-indexed
invariant_of-result-clause-indexed c = (rw c.as_slice.ensures.value at c.in_ok-checked.ensures).2

pub invariant_of-result-clause-counted : goal.invariant_of-result-clause-counted
invariant_of-result-clause-counted c =
    let h = rw c.as_slice.ensures.value at c.in_ok-checked.ensures in
    h.0.chart.fixes ∙ names_length c.args.file.items c.read_file.new.starts.items

pub invariant_of-result-clause-names : goal.invariant_of-result-clause-names
invariant_of-result-clause-names c = names_of_chart (rw c.as_slice.ensures.value at c.in_ok-checked.ensures).0.chart.means

pub invariant_of-result-clause-chart : goal.invariant_of-result-clause-chart
invariant_of-result-clause-chart c = ∣ (rw c.as_slice.ensures.value at c.in_ok-checked.ensures).0.chart ∣₁

pub returns-clause-reads_the_chart_or_tells_the_fault : goal.returns-clause-reads_the_chart_or_tells_the_fault
unfolding indexed_names
returns-clause-reads_the_chart_or_tells_the_fault c =
    let h = rw c.as_slice.ensures.value at c.in_ok-checked.ensures in
    (refl, h.0)
