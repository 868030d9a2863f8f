use Rattle.std.proofs.Common.{rules}
use Rattle.pursuit.specs.Pursuits.{RivalKeeps}
use Rattle.pursuit.specs.internal.Margins.{table_margin, table_query}
use Rattle.pursuit.proofs.LegLoops.{best_so_far_start, best_so_far_on, larger_is}
use Rattle.pursuit.proofs.margin_table.MarginTable.rival_moves.Goals as goal

pub loop-f-init : goal.loop-f-init
loop-f-init c = best_so_far_start (RivalKeeps (table_query c.args.self.now) (table_margin c.args.self.now) c.args.a) (search rules)

pub loop-f-preserved : goal.loop-f-preserved
loop-f-preserved c =
    best_so_far_on (RivalKeeps (table_query c.args.self.now) (table_margin c.args.self.now) c.args.a) c.loop-f.most c.rival_keeps.result c.max-most.result (larger_is _ _ _ c.max-most.ensures) c.loop-f.invariant c.in-Some.f c.next.new.self c.in-Some.ensures.steps c.rival_keeps.ensures
