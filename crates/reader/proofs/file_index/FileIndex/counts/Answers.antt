use Rattle.reader.specs.Readings.{indexed_names}
use Rattle.reader.proofs.file_index.FileIndex.counts.Goals as goal

pub returns-clause-of_its_chart : goal.returns-clause-of_its_chart
unfolding indexed_names
returns-clause-of_its_chart c = c.args.self.now.chart
