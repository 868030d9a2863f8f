use Rattle.chart.proofs.BestTotals.{best_total_is_unique}
use Rattle.search.proofs.best_total.best.Goals as goal

pub returns-clause-unique : goal.returns-clause-unique
returns-clause-unique g c = let kind = c.args.kind.now in best_total_is_unique (g.K.Kind.rule kind) (g.K.Kind.laws kind)
