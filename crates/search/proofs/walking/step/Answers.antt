use Rattle.std.proofs.Common.{rules}
use Rattle.search.proofs.LongerWalks.{step_answers}
use Rattle.search.proofs.walking.step.Goals as goal

pub returns : goal.returns
returns c = step_answers _ _ _ _ c.leg.result _ _ c.leg.ensures c.filter.ensures (λ l b post. search rules)
