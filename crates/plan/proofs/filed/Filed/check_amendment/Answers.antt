use Rattle.std.proofs.Common.{◌≡◌, ◌<◌, not, true, [], length, sym, ap, ◌∙◌, ◌&&◌, arith}
use Rattle.std.specs.Prelude.{◌≢◌}
use Rattle.std.specs.Option.{is_some}
use Rattle.std.proofs.lemmas.Bool.{eqb-true, eqb-false, eq-eqb, ne_eqb, le-leb, lt-leb}
use Rattle.std.proofs.lemmas.List.{length-map}
use Rattle.chart.proofs.LegsByNumber.{leg_get_some}
use Rattle.plan.specs.Ledgers.{is_amended, grounds}
use Rattle.plan.specs.Plans.{plan_legs, ledger_of}
use Rattle.plan.specs.Limits.{max_amended, last_revision}
use Rattle.plan.specs.internal.AmendedLegs.{IsGranted}
use Rattle.plan.specs.declared.amendment.AmendedLeg.{AmendedLeg}
use Rattle.plan.proofs.FirstGrounds.{NoneBefore, first_ground, next_place, free_where_amended, free_where_room, check_tells_invalid, below_if_not, past_the_legs}
use Rattle.plan.proofs.InsertAndRemove.{is_amended_by_place}
use Rattle.plan.proofs.filed.Filed.check_amendment.Goals as goal
use Rattle.plan.proofs.filed.Filed.check_amendment.Goals.{After-has_valid_times, After-place, After-is_some}

-- the amendment is of a leg of the plan
there : (g : _) (c : After-has_valid_times g) → c.args.amendment.now.leg < length (plan_legs g.C.Chart.legs c.args.self.now)
there g c = (leg_get_some (plan_legs g.C.Chart.legs c.args.self.now) c.args.amendment.now.leg c.in-Some.leg (sym c.in-Some.is ∙ c.leg.ensures)).0

-- no ground before the one of the times applies
before_times : (g : _) (c : After-has_valid_times g) → NoneBefore (ledger_of g.C.Chart.legs c.args.self.now) c.args.amendment.now 1
before_times g c = (lt-leb (length (plan_legs g.C.Chart.legs c.args.self.now)) c.args.amendment.now.leg (there g c), tt)

-- the times are valid
before_revisions : (g : _) (c : After-has_valid_times g) → c.has_valid_times.result ≡ true → NoneBefore (ledger_of g.C.Chart.legs c.args.self.now) c.args.amendment.now 2
before_revisions g c e =
    next_place (ledger_of g.C.Chart.legs c.args.self.now) c.args.amendment.now 1 (omega arith) (before_times g c)
    (check_tells_invalid c.args.amendment.now.change c.has_valid_times.result c.has_valid_times.ensures ∙ ap not e)

-- the revision is not the last
before_other : (g : _) (c : After-has_valid_times g) → c.has_valid_times.result ≡ true → c.args.self.now.revision ≢ last_revision → NoneBefore (ledger_of g.C.Chart.legs c.args.self.now) c.args.amendment.now 3
before_other g c e n = next_place (ledger_of g.C.Chart.legs c.args.self.now) c.args.amendment.now 2 (omega arith) (before_revisions g c e) (ne_eqb c.args.self.now.revision last_revision n)

-- the revision given is the plan's
at_revision : (g : _) (c : After-place g) → NoneBefore (ledger_of g.C.Chart.legs c.args.self.now) c.args.amendment.now 4
at_revision g c =
    next_place (ledger_of g.C.Chart.legs c.args.self.now) c.args.amendment.now 3 (omega arith)
    (before_other g (goal.at.After-place g c).After-has_valid_times c.if-not-has_valid_times.false (λ e. c.if-self-eq-LAST_REVISION.false (omega (arith, e))))
    (ap not (eq-eqb c.args.amendment.now.revision c.args.self.now.revision (omega (arith, c.if-amendment-self.false))))

-- whether the leg stands amended
amended_by_place : (g : _) (c : After-is_some g) → is_amended (ledger_of g.C.Chart.legs c.args.self.now) c.args.amendment.now.leg ≡ c.is_some.result
amended_by_place g c = sym (c.is_some.ensures ∙ ap is_some c.place.ensures ∙ is_amended_by_place c.args.self.now.amended.items c.args.amendment.now.leg)

-- where no ground applies
is_granted : (g : _) (c : After-place g) → grounds (ledger_of g.C.Chart.legs c.args.self.now) c.args.amendment.now ≡ [] → IsGranted (ledger_of g.C.Chart.legs c.args.self.now) c.args.amendment.now c.in-Some.leg
is_granted g c free =
    let s = leg_get_some (plan_legs g.C.Chart.legs c.args.self.now) c.args.amendment.now.leg c.in-Some.leg (sym c.in-Some.is ∙ c.leg.ensures) in
    record {
      free = free;
      before_last = below_if_not c.args.self.now.revision last_revision c.args.self.now.counted (λ e. c.if-self-eq-LAST_REVISION.false (omega (arith, e)));
      there = s.0;
      is = s.1;
    }

pub returns-in_default-clause-checked : goal.returns-in_default-clause-checked
returns-in_default-clause-checked g c =
    first_ground (ledger_of g.C.Chart.legs c.args.self.now) c.args.amendment.now 0 (omega arith) tt
    (le-leb (length (plan_legs g.C.Chart.legs c.args.self.now)) c.args.amendment.now.leg (past_the_legs (plan_legs g.C.Chart.legs c.args.self.now) c.args.amendment.now.leg (sym c.in_default.is ∙ c.leg.ensures)))

pub returns-then-not-has_valid_times-clause-checked : goal.returns-then-not-has_valid_times-clause-checked
returns-then-not-has_valid_times-clause-checked g c =
    first_ground (ledger_of g.C.Chart.legs c.args.self.now) c.args.amendment.now 1 (omega arith)
    (before_times g (goal.at.returns-then-not-has_valid_times-clause-checked g c).After-has_valid_times)
    (check_tells_invalid c.args.amendment.now.change c.has_valid_times.result c.has_valid_times.ensures ∙ ap not c.if-not-has_valid_times.true)

pub returns-then-self-eq-LAST_REVISION-clause-checked : goal.returns-then-self-eq-LAST_REVISION-clause-checked
returns-then-self-eq-LAST_REVISION-clause-checked g c =
    first_ground (ledger_of g.C.Chart.legs c.args.self.now) c.args.amendment.now 2 (omega arith)
    (before_revisions g (goal.at.returns-then-self-eq-LAST_REVISION-clause-checked g c).After-has_valid_times c.if-not-has_valid_times.false)
    (eq-eqb c.args.self.now.revision last_revision (omega (arith, c.if-self-eq-LAST_REVISION.true)))

pub returns-then-amendment-self-clause-checked : goal.returns-then-amendment-self-clause-checked
returns-then-amendment-self-clause-checked g c =
    first_ground (ledger_of g.C.Chart.legs c.args.self.now) c.args.amendment.now 3 (omega arith)
    (before_other g (goal.at.returns-then-amendment-self-clause-checked g c).After-has_valid_times c.if-not-has_valid_times.false (λ e. c.if-self-eq-LAST_REVISION.false (omega (arith, e))))
    (ap not (ne_eqb c.args.amendment.now.revision c.args.self.now.revision c.if-amendment-self.true))

pub returns-then-is_some-clause-checked : goal.returns-then-is_some-clause-checked
returns-then-is_some-clause-checked g c =
    let at = goal.at.returns-then-is_some-clause-checked g c in
    is_granted g at.After-place
    (free_where_amended (ledger_of g.C.Chart.legs c.args.self.now) c.args.amendment.now (at_revision g at.After-place) (amended_by_place g at.After-is_some ∙ c.if-is_some.true))

pub returns-then-is_restore-clause-checked : goal.returns-then-is_restore-clause-checked
returns-then-is_restore-clause-checked g c =
    let at = goal.at.returns-then-is_restore-clause-checked g c in
    first_ground (ledger_of g.C.Chart.legs c.args.self.now) c.args.amendment.now 4 (omega arith) (at_revision g at.After-place)
    (λ i. (sym c.is_restore.ensures ∙ c.if-is_restore.true) i && not ((amended_by_place g at.After-is_some ∙ c.if-is_some.false) i))

pub returns-then-is_full-clause-checked : goal.returns-then-is_full-clause-checked
returns-then-is_full-clause-checked g c =
    let at = goal.at.returns-then-is_full-clause-checked g c in
    let l = ledger_of g.C.Chart.legs c.args.self.now in
    let restores_not = sym c.is_restore.ensures ∙ c.if-is_restore.false in
    let amended_not = amended_by_place g at.After-is_some ∙ c.if-is_some.false in
    first_ground l c.args.amendment.now 5 (omega arith)
    (next_place l c.args.amendment.now 4 (omega arith) (at_revision g at.After-place) (λ i. restores_not i && not (amended_not i)))
    (λ i. not (restores_not i) && (not (amended_not i) && eq-eqb (length l.amended) max_amended (length-map c.args.self.now.amended.items (λ (a : AmendedLeg). a.number) ∙ omega (arith, eqb-true (length c.args.self.now.amended.items) _ (sym c.is_full.ensures.value ∙ c.if-is_full.true))) i))

pub returns-clause-checked : goal.returns-clause-checked
returns-clause-checked g c =
    let at = goal.at.returns-clause-checked g c in
    is_granted g at.After-place
    (free_where_room (ledger_of g.C.Chart.legs c.args.self.now) c.args.amendment.now (at_revision g at.After-place)
    (sym c.is_restore.ensures ∙ c.if-is_restore.false)
    (λ e. eqb-false (length c.args.self.now.amended.items) _ (sym c.is_full.ensures.value ∙ c.if-is_full.false) (omega (arith, e, length-map c.args.self.now.amended.items (λ (a : AmendedLeg). a.number)))))
