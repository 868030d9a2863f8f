use Rattle.regret.proofs.EveryRouteHasRegret.{every_route_has_a_regret, regret_is_never_exceeded}
use Rattle.regret.proofs.WorstChoice.{worst_choice_gives_regret, regret_is_unique}
use Rattle.regret.proofs.regrets.regret.Goals as goal

pub returns-clause-worst_choice : goal.returns-clause-worst_choice
returns-clause-worst_choice g c = worst_choice_gives_regret

pub returns-clause-never_exceeded : goal.returns-clause-never_exceeded
returns-clause-never_exceeded g c = regret_is_never_exceeded

pub returns-clause-every_route_has_one : goal.returns-clause-every_route_has_one
returns-clause-every_route_has_one g c = every_route_has_a_regret

pub returns-clause-unique : goal.returns-clause-unique
returns-clause-unique g c = regret_is_unique
