use Rattle.std.proofs.Common.{Some, sym, refl, ap, ◌∙◌, arith}
use Rattle.chart.specs.Rows.{leg_of}
use Rattle.chart.specs.Grid.{grid_legs}
use Rattle.chart.specs.laws.Lattices.{length_grid}
use Rattle.chart.specs.Lattices.{lattice_legs}
use Rattle.chart.proofs.LegsOfRows.{leg_of_row_of_leg, leg_get_legs, no_leg_past}
use Rattle.chart.proofs.LatticeLegs.{small_leg, spans_read, ends_read, leg_read}
use Rattle.chart.proofs.lattice.LatticeChart.leg.Goals as goal

pub returns-then-k-self : goal.returns-then-k-self
unfolding lattice_legs
returns-then-k-self c =
    let l = c.args.self.now in
    sym (no_leg_past (grid_legs l.rows l.columns l.top l.steps) c.args.k (omega (arith, length_grid l.rows l.columns l.top l.steps, c.if-k-self.true)))

pub listed : goal.listed
listed c = let l = c.args.self.now in omega (arith, (small_leg l c.args.k c.if-k-self.false).step_small, l.whole)

pub bounds-self-s : goal.bounds-self-s
bounds-self-s c = let l = c.args.self.now in (small_leg l c.args.k c.if-k-self.false).step_small

pub overflow_mul-result : goal.overflow_mul-result
overflow_mul-result c = let b = small_leg c.args.self.now c.args.k c.if-k-self.false in omega (arith, b.from_small)

pub overflow_add-result : goal.overflow_add-result
overflow_add-result c = let b = small_leg c.args.self.now c.args.k c.if-k-self.false in omega (arith, b.from_small)

pub overflow_mul-result-2 : goal.overflow_mul-result-2
overflow_mul-result-2 c = let b = small_leg c.args.self.now c.args.k c.if-k-self.false in omega (arith, b.to_small)

pub overflow_add-result-3 : goal.overflow_add-result-3
overflow_add-result-3 c = let b = small_leg c.args.self.now c.args.k c.if-k-self.false in omega (arith, b.to_small)

pub overflow_add-result-4 : goal.overflow_add-result-4
overflow_add-result-4 c = let b = small_leg c.args.self.now c.args.k c.if-k-self.false in omega (arith, b.to_small)

pub invariant_of-result : goal.invariant_of-result
invariant_of-result c =
    let l = c.args.self.now in
    let h = c.if-k-self.false in
    let spans = spans_read l c.args.k c.index-self-s.result h in
    let ends = ends_read l c.args.k c.index-self-s.result h in
    record { apart = λ e. omega (arith, ends.0, ends.1); ordered = spans.ordered; bounded = spans.bounded; level = l.level }

pub returns : goal.returns
unfolding lattice_legs
returns c =
    let l = c.args.self.now in
    let h = c.if-k-self.false in
    ap Some (leg_of_row_of_leg _ ∙ ap leg_of (leg_read l c.args.k c.index-self-s.result h _ (omega arith) (omega arith) refl refl refl refl))
    ∙ sym (leg_get_legs (grid_legs l.rows l.columns l.top l.steps) c.args.k (omega (arith, length_grid l.rows l.columns l.top l.steps)))
