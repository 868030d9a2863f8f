use Rattle.std.proofs.Common.{subst, arith}
use Rattle.floor.proofs.AvoidingTotals.{SmallOff, made_small}
use Rattle.floor.proofs.onward.AvoidKind.add.Goals as goal

pub overflow_add-result : goal.overflow_add-result
overflow_add-result c =
    let few = c.requires in
    let small = subst (λ t. SmallOff few.0 t) c.in_ok-total.was (made_small c.args.self.now.used.now few.0 c.args.total few.1) in
    omega (arith, few.2, c.args.leg.now.bounded)
