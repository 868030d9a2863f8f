use Rattle.std.proofs.Common.{◌+◌, ◌<◌, length, sym, ap, ◌∙◌, arith}
use Rattle.chart.proofs.LegsByNumber.{leg_get_is_leg_at, leg_get_not_none}
use Rattle.search.specs.internal.Index.{first_legs}
use Rattle.search.proofs.AdjacencyIndexes.{copied_more}
use Rattle.search.proofs.snapshot.copy_legs.Goals as goal
use Rattle.search.proofs.snapshot.copy_legs.Goals.{in-Some, in_default}

pub loop-k-preserved : goal.loop-k-preserved
loop-k-preserved g c =
    let legs = g.C.Chart.legs c.args.chart.now in
    let here = c.loop-k-test.true in
    elim c.match-leg.branch [
      | in-Some w ↦
          let lt : c.loop-k.k < length legs = omega arith in
          let is = leg_get_is_leg_at legs c.loop-k.k w.in-Some.leg lt (sym w.in-Some.is ∙ c.leg.ensures) in
          (omega arith, ap (λ r. first_legs (c.loop-k.k + 1) r) w.legs-is ∙ copied_more legs c.loop-k.legs c.loop-k.k _ c.loop-k.invariant.0 lt is c.loop-k.invariant.1)
      | in_default w ↦ absurd (leg_get_not_none legs c.loop-k.k (omega arith) (sym c.leg.ensures ∙ w.in_default.is))
    ]
