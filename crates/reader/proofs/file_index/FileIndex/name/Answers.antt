use Rattle.reader.specs.Readings.{indexed_names}
use Rattle.reader.proofs.file_index.FileIndex.name.Goals as goal

pub returns-clause-gives_the_name : goal.returns-clause-gives_the_name
unfolding indexed_names
returns-clause-gives_the_name c = rw c.as_slice.ensures.value at c.name_of_fix.ensures

pub returns-clause-names_are_good : goal.returns-clause-names_are_good
unfolding indexed_names
returns-clause-names_are_good c = c.args.self.now.names
