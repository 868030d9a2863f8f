-- The proof that a plan keeps the limits of charts. There is nothing here to believe: it stands among the definitions since the
-- plan itself cites it.
use Rattle.std.specs.Prelude.{◌≡◌, ℕ, ◌<◌, ◌≤◌, List, [], ◌∷◌, length, slice_set, ◌≢◌}
use Rattle.std.proofs.Math.Path.{sym}
use Rattle.std.proofs.Common.{subst, ◌∙◌, refl, arith, ⊎_elim, get_or}
use Rattle.std.proofs.lemmas.Bool.{cases_eq, cases_lt}
use Rattle.std.proofs.lemmas.List.{length-set, get_or-set_other, set_past}
use Rattle.std.proofs.lemmas.Grind.{get_or-set_at}
use Rattle.chart.specs.declared.leg.Leg.{Leg}
use Rattle.chart.specs.Legs.{leg_at, no_leg, IsChart}
use Rattle.plan.specs.declared.amendment.AmendedLeg.{AmendedLeg}
use Rattle.plan.specs.declared.filed.Filed.{Filed}
use Rattle.plan.specs.Overlays.{overlay_leg, overlay}
use Rattle.plan.specs.Plans.{plan_legs}
use Rattle.plan.specs.internal.AmendedLegs.{JoinsSameFixes}

module _ (legs : List Leg) where
  -- a plan has as many legs as its chart
  pub length_overlay : (amended : List AmendedLeg) → length (overlay legs amended) ≡ length legs
  unfolding overlay
  length_overlay [] = refl
  length_overlay (a ∷ more) = length-set (overlay legs more) a.number (overlay_leg (leg_at legs a.number) a) ∙ length_overlay more

  overlay_leg_joins_same_fixes : (leg : Leg) (a : AmendedLeg) → JoinsSameFixes leg (overlay_leg leg a)
  unfolding overlay_leg
  overlay_leg_joins_same_fixes leg a = record { from = refl; to = refl; top = refl }

  amended_joins_same_fixes : (k : ℕ) (xs : List Leg) (a : AmendedLeg) → k ≡ a.number → k < length xs
      → JoinsSameFixes (leg_at legs k) (leg_at (slice_set xs a.number (overlay_leg (leg_at legs a.number) a)) k)
  unfolding leg_at
  amended_joins_same_fixes k xs a e h =
      let leg = overlay_leg (leg_at legs a.number) a in
      let joins = overlay_leg_joins_same_fixes (leg_at legs a.number) a in
      subst (λ x. JoinsSameFixes (get_or legs k no_leg) x) (sym (get_or-set_at xs a.number k leg no_leg e (omega arith)))
      (subst (λ j. JoinsSameFixes (get_or legs j no_leg) leg) (sym e) joins)

  -- a plan's leg joins the same fixes as the chart's, at the same top level
  pub overlay_joins_same_fixes : (amended : List AmendedLeg) (k : ℕ) → JoinsSameFixes (leg_at legs k) (leg_at (overlay legs amended) k)
  unfolding overlay leg_at
  overlay_joins_same_fixes [] k = record { from = refl; to = refl; top = refl }
  overlay_joins_same_fixes (a ∷ more) k =
      ⊎_elim
      (λ (e : k ≡ a.number).
      ⊎_elim
      (λ (h : k < length (overlay legs more)). amended_joins_same_fixes k (overlay legs more) a e h)
      (λ (h : length (overlay legs more) ≤ k).
      subst (λ (xs : List Leg). JoinsSameFixes (get_or legs k no_leg) (get_or xs k no_leg))
      (sym (set_past (overlay legs more) a.number (overlay_leg (leg_at legs a.number) a) (omega arith))) (overlay_joins_same_fixes more k))
      (cases_lt k (length (overlay legs more))))
      (λ (n : k ≢ a.number).
      subst (λ x. JoinsSameFixes (get_or legs k no_leg) x)
      (sym (get_or-set_other (overlay legs more) a.number k (overlay_leg (leg_at legs a.number) a) no_leg n)) (overlay_joins_same_fixes more k))
      (cases_eq k a.number)

pub plan_is_chart : {C : Type 0} (fixes : C → ℕ) (legs : C → List Leg) → ((c : C) → IsChart (fixes c) (legs c))
    → (plan : Filed C) → IsChart (fixes plan.chart) (plan_legs legs plan)
plan_is_chart fixes legs is_chart plan =
    let own = legs plan.chart in
    let c = is_chart plan.chart in
    let es = plan.amended.items in
    record {
      least = c.least;
      most = c.most;
      few = omega (arith, c.few, length_overlay own es);
      leaves = λ k h. subst (λ x. x < fixes plan.chart) (overlay_joins_same_fixes own es k).from (c.leaves k (omega (arith, length_overlay own es)));
      enters = λ k h. subst (λ x. x < fixes plan.chart) (overlay_joins_same_fixes own es k).to (c.enters k (omega (arith, length_overlay own es)));
    }
