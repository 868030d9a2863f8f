use Rattle.std.proofs.Common.{sym, arith}
use Rattle.floor.proofs.ShutLegs.{shut_by_left, shut_by_entered}
use Rattle.floor.proofs.floor_choice.is_shut.Goals as goal

pub returns-then-is_used_beside : goal.returns-then-is_used_beside
returns-then-is_used_beside c legs ks along is =
    let shut = shut_by_left legs c.args.walked.now.from ks c.args.walked.now along c.args.k c.args.leg is (sym c.if-not-is_flagged.ensures) _ _ (omega arith) (omega arith) c.if-is_used_beside.ensures in
    rw c.if-is_used_beside.true shut

pub returns-else-is_used_beside : goal.returns-else-is_used_beside
returns-else-is_used_beside c legs ks along is =
    let again = c.is_used_beside-else-is_used_beside in
    shut_by_entered legs c.args.walked.now.from ks c.args.walked.now along c.args.k c.args.leg is (sym c.if-not-is_flagged.ensures) _ _ (omega arith) (omega arith) c.if-is_used_beside.ensures _ _ (omega arith) (omega arith) again.result again.ensures
