use Rattle.std.proofs.Common.{sym, ap, ◌∙◌, Some}
use Rattle.plan.proofs.InsertAndRemove.{plan_leg_none, plan_leg_some_own, plan_leg_some_amended}
use Rattle.plan.proofs.filed.FiledChart.leg.Goals as goal

pub returns-in_err-own : goal.returns-in_err-own
returns-in_err-own g c =
    c.from_residual.ensures
    ∙ plan_leg_none (g.C.Chart.legs c.args.self.now.chart) c.args.self.now.amended.items c.args.k (sym (c.in_err-own.was) ∙ c.leg.ensures)

pub returns-in_default : goal.returns-in_default
returns-in_default g c =
    plan_leg_some_own (g.C.Chart.legs c.args.self.now.chart) c.args.self.now.amended.items c.args.k c.in_ok-own.own (sym (c.in_ok-own.was) ∙ c.leg.ensures) (sym c.in_default.is ∙ c.place.ensures)

pub returns : goal.returns
returns g c =
    ap Some c.overlay_leg.ensures
    ∙ plan_leg_some_amended (g.C.Chart.legs c.args.self.now.chart) c.args.self.now.amended.items c.args.k c.in_ok-own.own c.in-Some.place _
    (sym (c.in_ok-own.was) ∙ c.leg.ensures) (sym c.in-Some.is ∙ c.place.ensures) (rw c.deref.ensures.0 at c.index-deref-place.is)
