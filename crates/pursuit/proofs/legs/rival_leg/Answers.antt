use Rattle.std.proofs.Common.{rules}
use Rattle.pursuit.specs.Rivals.{ServesRival}
use Rattle.pursuit.specs.Answers.{query_on}
use Rattle.pursuit.proofs.ReadLegs.{filtered_serves}
use Rattle.pursuit.proofs.legs.rival_leg.Goals as goal

pub returns : goal.returns
returns c = filtered_serves ServesRival (query_on c.args.snapshot.now c.args.ends) c.args.k c.leg.result _ _ c.leg.ensures c.filter.ensures (λ l b post. search rules)
