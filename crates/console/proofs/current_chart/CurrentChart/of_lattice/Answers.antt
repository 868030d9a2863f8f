use Rattle.std.proofs.Common.{◌≡◌, map, ap, ◌∙◌, subst, refl, arith}
use Rattle.std.specs.Prelude.{Ok}
use Rattle.std.proofs.lemmas.Result.{IfOk-at_ok}
use Rattle.chart.specs.Rows.{row_of_leg}
use Rattle.chart.specs.Grid.{lattice_outcome, IsLatticeOutcome}
use Rattle.console.proofs.current_chart.CurrentChart.of_lattice.Goals as goal

pub returns : goal.returns
returns c =
    let request = c.args.request.now in
    let is : c.new.result ≡ Ok c.in_ok-lattice.lattice = grind arith in
    let outcome = rw c.as_slice-steps.ensures.value at c.new.ensures.outcome in
    let within = subst (λ r. IsLatticeOutcome request.rows request.columns request.top request.steps.items (lattice_outcome r)) is outcome in
    let grid = IfOk-at_ok _ is (rw c.as_slice-steps.ensures.value at c.new.ensures.means_the_grid) in
    record {
      shape = within.0;
      times = within.1;
      fixes = c.of.ensures.same_fixes ∙ grid.0;
      legs = ap (map row_of_leg) c.of.ensures.same_legs ∙ grid.1;
      unnamed = refl;
    }
