use Rattle.std.proofs.Common.{◌≡◌, sym, refl, ap, ◌∙◌, subst, subst₂, arith, rules}
use Rattle.chart.specs.declared.leg.Leg.{Leg}
use Rattle.chart.specs.declared.row.Standing.TheVariants.{Open}
use Rattle.chart.specs.Kinds.{HasFewLegs}
use Rattle.chart.specs.Routes.{Leaves}
use Rattle.search.specs.internal.Labels.{label_at, IsSettled}
use Rattle.search.specs.Snapshots.{snapshot_legs}
use Rattle.search.specs.laws.SnapshotLaws.{snapshot_is_chart}
use Rattle.search.specs.internal.Invariants.{IsImproved}
use Rattle.search.proofs.LegsLeaving.{leads_to_fix}
use Rattle.search.proofs.RelaxedLegs.{read_u, few_legs, relaxing_small, relaxing_passes_closed, relaxing_passes_settled, relaxing_improved}
use Rattle.search.proofs.search_state.Search.relax.Goals as goal

pub returns-then-ne-clause-advances : goal.returns-then-ne-clause-advances
returns-then-ne-clause-advances g c =
    let laws = g.K.Kind.laws c.args.self.now.kind.now in
    let not_open : (c.leg_at-leg.result.standing ≡ Open → ⊥) = search rules in
    let closed = subst (λ (l : Leg). l.standing ≡ Open → ⊥) c.leg_at-leg.ensures not_open in
    record { relaxing = λ departure relaxing. relaxing_passes_closed laws relaxing closed; count = refl; settled = λ x d. d }

pub bounds-self-to : goal.bounds-self-to
bounds-self-to g c = omega (arith, leads_to_fix c.args.self.now.snapshot.now c.requires.leg.0 c.leg_at-leg.ensures, c.requires.relaxing.1.relaxed_up_to.states)

pub returns-then-eq-clause-advances : goal.returns-then-eq-clause-advances
returns-then-eq-clause-advances g c =
    let laws = g.K.Kind.laws c.args.self.now.kind.now in
    let state = c.args.self.now.state.now in
    let settled : IsSettled state c.leg_at-leg.result.to = search rules in
    let there = subst (λ (l : Leg). IsSettled state l.to) c.leg_at-leg.ensures settled in
    record { relaxing = λ departure relaxing. relaxing_passes_settled laws relaxing there; count = refl; settled = λ x d. d }

pub bounds-self-u : goal.bounds-self-u
bounds-self-u g c = omega (arith, relaxing_small (g.K.Kind.laws c.args.self.now.kind.now) c.requires.relaxing.1, c.requires.relaxing.1.relaxed_up_to.labels)

pub add-total-requires : goal.add-total-requires
add-total-requires g c =
    let kind = c.args.self.now.kind.now in
    let laws = g.K.Kind.laws kind in
    let relaxing = c.requires.relaxing.1 in
    let unsettled : (IsSettled c.args.self.now.state.now c.leg_at-leg.result.to → ⊥) = search rules in
    let few = few_legs laws relaxing c.leg_at-leg.result.to (leads_to_fix c.args.self.now.snapshot.now c.requires.leg.0 c.leg_at-leg.ensures) unsettled in
    subst (HasFewLegs (g.K.Kind.rule kind)) (sym (read_u laws relaxing c.index-self-u.result)) few

pub improve_label-requires : goal.improve_label-requires
improve_label-requires g c = record { fix = leads_to_fix c.args.self.now.snapshot.now c.requires.leg.0 c.leg_at-leg.ensures; unsettled = search rules }

pub returns : goal.returns
returns g c =
    let s = c.args.self.now.snapshot.now in
    let label = c.args.self.now.label.now in
    let state = c.args.self.now.state.now in
    let rule = g.K.Kind.rule c.args.self.now.kind.now in
    let laws = g.K.Kind.laws c.args.self.now.kind.now in
    let leg = c.leg_at-leg.result in
    let is = c.leg_at-leg.ensures in
    let unsettled : (IsSettled state leg.to → ⊥) = search rules in
    let read = read_u laws c.requires.relaxing.1 c.index-self-u.result in
    let total = c.add-total.ensures ∙ ap (λ a. rule.add a c.args.j leg) read ∙ ap (λ l. rule.add (label_at rule label c.args.u) c.args.j l) is in
    let improved = subst₂ (λ w a. IsImproved rule label state w a c.improve_label.new.self.label.now c.improve_label.new.self.state.now) (ap (λ (l : Leg). l.to) is) total c.improve_label.ensures.improved in
    let is_open : leg.standing ≡ Open = search rules in
    let leaves : Leaves (snapshot_legs s) c.args.u c.args.j = record { there = c.requires.leg.0; is_open = sym (ap (λ (l : Leg). l.standing) is) ∙ is_open; from = c.requires.leg.1 } in
    let away = subst (λ (l : Leg). IsSettled state l.to → ⊥) is unsettled in
    let relaxed = relaxing_improved laws c.requires.relaxing.1 (snapshot_is_chart s) leaves away improved in
    record {
      same = c.improve_label.ensures.same;
      advances = record {
        relaxing = λ departure relaxing. (relaxing_improved laws relaxing (snapshot_is_chart s) leaves away improved).relaxing;
        count = relaxed.count;
        settled = relaxed.settled;
      };
    }
