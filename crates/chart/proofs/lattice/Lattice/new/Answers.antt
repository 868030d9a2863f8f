use Rattle.std.proofs.Common.{refl, ◌∙◌, arith}
use lib.ListN.{length-replicate}
use Rattle.chart.specs.Limits.{max_steps}
use Rattle.chart.specs.Grid.{no_step}
use Rattle.chart.specs.Lattices.{lattice_legs}
use Rattle.chart.proofs.LatticeLegs.{copied_steps_valid, lattice_gives_grid_back, grid_has_numbers}
use Rattle.chart.proofs.lattice.Lattice.new.Goals as goal

pub invariant_of-result : goal.invariant_of-result
invariant_of-result c =
    let shaped = c.if-not-is_grid_shape.ensures.0 refl in
    let timed = copied_steps_valid c.args.steps.now c.copy_steps.new.all _ c.copy_steps.ensures (c.if-not-are_valid.ensures.0 refl) in
    record {
      some = shaped.some_rows;
      few = shaped.few_rows;
      wide = shaped.some_columns;
      short = shaped.few_columns;
      level = c.if-top-gt-MAX_LEVEL.false;
      whole = c.copy_steps.auto.all ∙ length-replicate max_steps no_step;
      ordered = λ s t h b. (timed s (omega (arith, shaped.steps_fit)) t b).ordered;
      bounded = λ s t h b. (timed s (omega (arith, shaped.steps_fit)) t b).bounded;
    }

pub returns-clause-outcome : goal.returns-clause-outcome
returns-clause-outcome c = (
  c.if-not-is_grid_shape.ensures.0 refl,
  record { level = c.if-top-gt-MAX_LEVEL.false; intervals = c.if-not-are_valid.ensures.0 refl },
)

pub returns-clause-means_the_grid : goal.returns-clause-means_the_grid
unfolding lattice_legs
returns-clause-means_the_grid c =
    let shaped = c.if-not-is_grid_shape.ensures.0 refl in (
      refl,
      lattice_gives_grid_back c.args.rows c.args.columns c.args.top c.args.steps.now c.copy_steps.new.all shaped c.if-top-gt-MAX_LEVEL.false (c.if-not-are_valid.ensures.0 refl) c.copy_steps.ensures,
    )

pub returns-clause-numbers_every_leg_of_the_grid : goal.returns-clause-numbers_every_leg_of_the_grid
returns-clause-numbers_every_leg_of_the_grid c =
    grid_has_numbers c.args.rows c.args.columns (c.if-not-is_grid_shape.ensures.0 refl).some_rows
