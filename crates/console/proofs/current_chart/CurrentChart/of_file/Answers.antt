use Rattle.std.proofs.lemmas.Result.{err_from_is_err_and}
use Rattle.console.proofs.current_chart.CurrentChart.of_file.Goals as goal

pub returns-in_err-index : goal.returns-in_err-index
returns-in_err-index c =
    let p = err_from_is_err_and c.from_residual.result c.from_residual.ensures.1 in
    rw (p.1, p.2) c.in_err-index.ensures.reads_the_chart_or_tells_the_fault.0
