use Rattle.pursuit.specs.Answers.{height_at}
use Rattle.pursuit.specs.internal.Margins.{table_query, table_margin}
use Rattle.pursuit.proofs.SupportedMargins.{tested_is_supported}
use Rattle.pursuit.proofs.margin_table.MarginTable.is_supported.Goals as goal

pub returns-else-margin-eq0 : goal.returns-else-margin-eq0
returns-else-margin-eq0 c =
    let l = c.args.self.now in
    tested_is_supported (table_query l) (height_at l.heights.now) _ (table_margin l) c.args.a c.args.b c.margin-margin.result c.kept_margin.result c.margin-margin.ensures c.kept_margin.ensures
