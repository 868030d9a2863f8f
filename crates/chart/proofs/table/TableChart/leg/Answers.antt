use Rattle.std.proofs.Common.{◌<◌, Some, sym, ap, ◌∙◌, arith}
use Rattle.chart.specs.Rows.{leg_of}
use Rattle.chart.specs.Tables.{table_legs, table_rows}
use Rattle.chart.specs.laws.Tables.{length_table_rows, row_at_table_rows}
use Rattle.chart.proofs.LegsOfRows.{leg_of_row_of_leg, leg_get_legs, no_leg_past}
use Rattle.chart.proofs.table.TableChart.leg.Goals as goal

pub returns-then-k-self : goal.returns-then-k-self
unfolding table_legs
returns-then-k-self c = let t = c.args.self.now in sym (no_leg_past (table_rows t) c.args.k (omega (arith, length_table_rows t, c.if-k-self.true)))

pub as_leg-requires : goal.as_leg-requires
as_leg-requires c =
    let t = c.args.self.now in
    let k = c.args.k in
    let h : k < t.count = omega (arith, c.if-k-self.false) in
    record { valid_times = record { ordered = t.ordered k h; bounded = t.bounded k h; level = t.level k h }; apart = t.apart k h }

pub returns : goal.returns
unfolding table_legs
returns c =
    let t = c.args.self.now in
    let k = c.args.k in
    let h : k < t.count = omega (arith, c.if-k-self.false) in
    ap Some (leg_of_row_of_leg _ ∙ ap leg_of (c.as_leg.ensures ∙ sym (row_at_table_rows t k h)))
    ∙ sym (leg_get_legs (table_rows t) k (omega (arith, length_table_rows t)))
