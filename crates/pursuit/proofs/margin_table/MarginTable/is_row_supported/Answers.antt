use Rattle.std.proofs.Common.{refl, below_more}
use Rattle.pursuit.proofs.margin_table.MarginTable.is_row_supported.Goals as goal

pub loop-b-preserved : goal.loop-b-preserved
loop-b-preserved c = below_more _ _ c.loop-b.invariant (c.if-not-is_supported.ensures refl)
