use Rattle.std.proofs.Common.{◌≡◌, length, arith}
use Rattle.reader.specs.Files.{names_at}
use Rattle.reader.specs.Readings.{names_of}
use Rattle.reader.proofs.NamesAt.{names_length}
use Rattle.reader.proofs.LegsAlwaysTaken.{legs_always_taken}
use Rattle.reader.proofs.reader.Reader.take_legs.Goals as goal

pub returns-clause-outcome : goal.returns-clause-outcome
unfolding names_of
returns-clause-outcome c =
    let r = c.args.self.now in
    let counted : length (names_at r.file.now r.starts.items) ≡ c.len.result = omega (arith, names_length r.file.now r.starts.items, c.len.ensures.value) in
    rw counted c.take_rows.ensures.outcome

pub returns-clause-takes_exactly_its_rows : goal.returns-clause-takes_exactly_its_rows
unfolding names_of
returns-clause-takes_exactly_its_rows c =
    let r = c.args.self.now in
    let counted : length (names_at r.file.now r.starts.items) ≡ c.len.result = omega (arith, names_length r.file.now r.starts.items, c.len.ensures.value) in
    rw counted c.take_rows.ensures.takes_exactly_its_rows

pub returns-clause-takes_the_legs_of_the_file : goal.returns-clause-takes_the_legs_of_the_file
returns-clause-takes_the_legs_of_the_file c = legs_always_taken c.take_rows.result (returns-clause-outcome c)
