use Rattle.std.proofs.Common.{refl, rules, arith}
use Rattle.plan.proofs.FirstGrounds.{closed_overlay, timed_overlay}
use Rattle.plan.proofs.amendment.AmendedLeg.of.Goals as goal

pub returns-in-Close : goal.returns-in-Close
returns-in-Close c = rw c.in-Close.is (refl, omega arith, λ own s. closed_overlay own c.args.leg.now _ s (omega arith) (omega arith) (search rules))

pub returns-in-Times : goal.returns-in-Times
returns-in-Times c = rw c.in-Times.is (refl, omega arith, λ own s. timed_overlay own c.args.leg.now _ s c.in-Times.times (search rules) (search rules))
