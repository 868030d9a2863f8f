use Rattle.reader.specs.internal.ReadingStates.{LegsReadTo}
use Rattle.reader.proofs.cursor.Cursor.read_legs.Given as goal

abbrev pub invariant-loop : goal.invariant-loop
invariant-loop l = LegsReadTo l.file l.self.place l.counts.fixes l.counts.legs l.initial.self.place l.counter
