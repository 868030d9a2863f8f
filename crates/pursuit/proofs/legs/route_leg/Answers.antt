use Rattle.std.proofs.Common.{rules}
use Rattle.pursuit.specs.Rivals.{ServesRoute}
use Rattle.pursuit.specs.Answers.{query_on}
use Rattle.pursuit.proofs.ReadLegs.{filtered_serves}
use Rattle.pursuit.proofs.legs.route_leg.Goals as goal

pub returns : goal.returns
returns c = filtered_serves ServesRoute (query_on c.args.snapshot.now c.args.ends) c.args.k c.leg.result _ _ c.leg.ensures c.filter.ensures (λ l b post. search rules)
