use Rattle.reader.specs.internal.RecordPlaces.{IsFilled}
use Rattle.reader.proofs.checked_file.fill.Given as goal

abbrev pub invariant-loop-k : goal.invariant-loop-k
invariant-loop-k l = IsFilled l.file l.base l.k l.initial.rows l.rows
