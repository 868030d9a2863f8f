use Rattle.runs.proofs.OneOutcome.{runs_have_one_outcome}
use Rattle.runs.proofs.file_and_run.file_and_run.Goals as goal

pub returns-in-Err-clause-one_outcome : goal.returns-in-Err-clause-one_outcome
returns-in-Err-clause-one_outcome g c = runs_have_one_outcome
