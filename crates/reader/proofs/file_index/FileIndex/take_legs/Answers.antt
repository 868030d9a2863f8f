use Rattle.std.proofs.Common.{◌≡◌, length, ◌∙◌, sym}
use Rattle.reader.specs.Files.{names_at}
use Rattle.reader.specs.Readings.{indexed_names}
use Rattle.reader.proofs.NamesAt.{names_length}
use Rattle.reader.proofs.LegsAlwaysTaken.{legs_always_taken}
use Rattle.reader.proofs.file_index.FileIndex.take_legs.Goals as goal

pub returns-clause-outcome : goal.returns-clause-outcome
unfolding indexed_names
returns-clause-outcome c =
    let i = c.args.self.now in
    let counted : length (names_at i.file.items i.starts.items) ≡ i.counts.fixes = names_length i.file.items i.starts.items ∙ sym i.counted in
    rw counted c.take_rows.ensures.outcome

pub returns-clause-takes_exactly_its_rows : goal.returns-clause-takes_exactly_its_rows
unfolding indexed_names
returns-clause-takes_exactly_its_rows c =
    let i = c.args.self.now in
    let counted : length (names_at i.file.items i.starts.items) ≡ i.counts.fixes = names_length i.file.items i.starts.items ∙ sym i.counted in
    rw counted c.take_rows.ensures.takes_exactly_its_rows

pub returns-clause-takes_the_legs_of_the_file : goal.returns-clause-takes_the_legs_of_the_file
returns-clause-takes_the_legs_of_the_file c = legs_always_taken c.take_rows.result (returns-clause-outcome c)
