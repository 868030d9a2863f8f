use Rattle.std.proofs.Common.{arith}
use Rattle.pursuit.specs.Pursuits.{HasCountermove}
use Rattle.pursuit.specs.internal.Margins.{table_margin, table_query}
use Rattle.pursuit.proofs.LegLoops.{passed_end}
use Rattle.pursuit.proofs.LegLoops.{countermove_on}
use Rattle.pursuit.proofs.margin_table.MarginTable.both_move.Goals as goal

pub loop-e-preserved : goal.loop-e-preserved
loop-e-preserved c =
    let m = c.min-least.ensures in
    countermove_on (table_query c.args.self.now) (table_margin c.args.self.now) c.loop-e.least c.best_countermove.result c.min-least.result (omega (arith, m)) (omega (arith, m)) c.loop-e.invariant c.in-Some.e c.next.new.self c.in-Some.ensures.steps c.best_countermove.ensures

pub returns : goal.returns
returns c = passed_end (HasCountermove (table_query c.args.self.now) (table_margin c.args.self.now) c.args.a c.loop-e.least) c.loop-e.invariant c.in-None.ensures.steps.0
