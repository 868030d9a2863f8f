use Rattle.std.proofs.Common.{rules}
use Rattle.pursuit.specs.Pursuits.{CountermoveKeeps}
use Rattle.pursuit.specs.internal.Margins.{table_margin, table_query}
use Rattle.pursuit.proofs.LegLoops.{best_so_far_start, best_so_far_on, larger_is}
use Rattle.pursuit.proofs.margin_table.MarginTable.best_countermove.Goals as goal

pub loop-f-init : goal.loop-f-init
loop-f-init c = best_so_far_start (CountermoveKeeps (table_query c.args.self.now) (table_margin c.args.self.now) c.args.e) (search rules)

pub loop-f-preserved : goal.loop-f-preserved
loop-f-preserved c =
    best_so_far_on (CountermoveKeeps (table_query c.args.self.now) (table_margin c.args.self.now) c.args.e) c.loop-f.most c.countermove_keeps.result c.max-most.result (larger_is _ _ _ c.max-most.ensures) c.loop-f.invariant c.in-Some-f.f c.next.new.self c.in-Some-f.ensures.steps c.countermove_keeps.ensures
