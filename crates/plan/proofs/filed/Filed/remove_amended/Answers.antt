use Rattle.std.proofs.Common.{refl, rules, not}
use Rattle.std.specs.Prelude.{◌==◌}
use Rattle.arrayvec.proofs.ArrayVecLemmas.{filter-from_retain}
use Rattle.plan.specs.declared.amendment.AmendedLeg.{AmendedLeg}
use Rattle.plan.proofs.filed.Filed.remove_amended.Goals as goal

pub returns : goal.returns
returns g c = record {
  chart = refl;
  ends = refl;
  revision = refl;
  items = filter-from_retain _ (λ (a : AmendedLeg). not (a.number == c.args.number)) _ (λ x b f' y called. search rules) c.args.self.now.amended.items _ c.retain.ensures.filtered;
}
