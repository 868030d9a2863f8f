use Rattle.std.proofs.Common.{arith, inl, ap, ◌≡◌, ◌<◌, ◌∙◌, length, get_or, subst}
use Rattle.std.specs.Prelude.{Some, slice_get, slice_set}
use Rattle.console.specs.Sessions.{plan_model, plan_models, session_of}
use Rattle.console.proofs.PlansStepped.{plan_at, plans_set}
use Rattle.console.proofs.session.Session.plan_command.Goals as goal

pub returns : goal.returns
returns c =
    let s = c.args.self.now in
    let place = c.in_ok-place.place in
    let before = get_or s.plans place c.index-self-place.result in
    let after = plan_model c.run.new.self in
    let numbered = rw c.in_ok-place.ensures.ok_part at c.place_of.ensures in
    let there : place < length s.plans = omega (arith, s.numbered, numbered.0.first, numbered.0.last, numbered.1) in
    inl record {
      is_number = numbered.0;
      before = plan_model before;
      after = after;
      was = subst (λ i. slice_get (plan_models s.plans) i ≡ Some (plan_model before)) numbered.1 (plan_at s.plans place c.index-self-place.result there);
      step = c.run.ensures;
      becomes = ap (λ plans. record (session_of s) { plans = plans }) (plans_set s.plans place c.run.new.self ∙ ap (λ i. slice_set (plan_models s.plans) i after) numbered.1);
    }
