use Rattle.std.proofs.Common.{refl, sym, ◌∙◌}
use Rattle.plan.proofs.InsertAndRemove.{insert_written, insert_pushed}
use Rattle.plan.proofs.filed.Filed.insert_amended.Goals as goal

pub returns-in-Some : goal.returns-in-Some
returns-in-Some g c = record {
  chart = refl;
  ends = refl;
  revision = refl;
  items = insert_written c.args.self.now.amended.items c.deref_mut.result.now c.args.amended c.in-Some.place c.deref_mut.ensures.value (sym c.in-Some.is ∙ c.place.ensures);
}

pub returns-in-None : goal.returns-in-None
returns-in-None g c = record {
  chart = refl;
  ends = refl;
  revision = refl;
  items = c.push.ensures.items ∙ insert_pushed c.args.self.now.amended.items c.args.amended (sym c.in-None.is ∙ c.place.ensures);
}
