use Rattle.std.proofs.Common.{refl, below_more}
use Rattle.pursuit.proofs.margin_table.MarginTable.is_each_supported.Goals as goal

pub loop-a-preserved : goal.loop-a-preserved
loop-a-preserved c = below_more _ _ c.loop-a.invariant (c.if-not-is_row_supported.ensures refl)
