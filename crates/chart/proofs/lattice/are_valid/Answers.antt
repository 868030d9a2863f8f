use Rattle.std.proofs.Common.{Bool, true, false, MatchBool, IsTrue, ◌↔◌, length, refl, arith, rules, tests}
use Rattle.std.proofs.lemmas.Iterator.{cases_from_all, YieldsList-from_slice}
use Rattle.chart.specs.Grid.{no_step, IsValidStep, AreValidSteps}
use Rattle.chart.proofs.lattice.are_valid.Goals as goal

iff_from_cases : {P Q : Type 0} (R : Type 0) (b : Bool) → (P → R) → (Q → R → ⊥) → MatchBool b P Q → IsTrue b ↔ R
iff_from_cases R true f g m = (λ e. f m, λ r. refl)
iff_from_cases R false f g m = (λ e. cc, λ r. absurd (g m r))

pub returns : goal.returns
returns c =
    let steps = c.args.steps.now in
    let timed = AreValidSteps steps (length steps) in
    let each = cases_from_all _ _ _ IsValidStep (λ x. IsValidStep x → ⊥) c.all.ensures.ran (YieldsList-from_slice steps cc) (λ x q k. search (rules, tests)) (λ x q k. search (rules, tests)) in
    iff_from_cases timed c.all.result (λ all s small. all s no_step (omega arith) small) (λ one all. one.2 no_step (all one.0 one.1)) each
