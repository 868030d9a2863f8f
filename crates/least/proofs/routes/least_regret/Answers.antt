use Rattle.std.proofs.Common.{◌≤◌, length, ap, subst₂, arith, length-take}
use Rattle.chart.specs.Regret.{query}
use Rattle.least.specs.internal.BranchAndBound.{IsOptimal}
use Rattle.least.proofs.UniqueLeastRegret.{least_regret_is_unique}
use Rattle.least.proofs.OptimalRoute.{incumbent_fits}
use Rattle.least.proofs.routes.least_regret.Goals as goal
use Rattle.least.proofs.routes.least_regret.Goals.{In_ok-incumbent}

-- the incumbent fits into the memory
fits : (g : _) (c : In_ok-incumbent g) → length c.in_ok-incumbent.incumbent.list.items ≤ length c.args.memory.now
fits g c =
    let ends = c.args.ends in
    let least = subst₂ (λ l o. IsOptimal (query l ends.from ends.to) o) c.of-snapshot.ensures.same_legs c.in_ok-incumbent.ensures.ok_part c.find.ensures in
    incumbent_fits (query (g.C.Chart.legs c.args.chart.now) ends.from ends.to) (g.C.Chart.is_chart c.args.chart.now) c.in_ok-incumbent.incumbent least c.args.memory.now (omega (arith, c.if-memory-most_legs.false, c.most_legs.ensures))

pub returns-then-memory-most_legs-clause-unique : goal.returns-then-memory-most_legs-clause-unique
returns-then-memory-most_legs-clause-unique g c = least_regret_is_unique

pub returns-in_err-incumbent-clause-unique : goal.returns-in_err-incumbent-clause-unique
returns-in_err-incumbent-clause-unique g c = least_regret_is_unique

pub slice_bounds-copy_from_slice-end : goal.slice_bounds-copy_from_slice-end
slice_bounds-copy_from_slice-end g c =
    let f = fits g (goal.at.slice_bounds-copy_from_slice-end g c).In_ok-incumbent in
    omega (arith, c.len-legs.ensures.value)

pub slice_bounds-copy_from_slice-end-2 : goal.slice_bounds-copy_from_slice-end-2
slice_bounds-copy_from_slice-end-2 g c =
    let f = fits g (goal.at.slice_bounds-copy_from_slice-end-2 g c).In_ok-incumbent in
    omega (arith, c.len-legs.ensures.value, length-take c.len-legs.result c.args.memory.now)

pub copy_from_slice-requires : goal.copy_from_slice-requires
copy_from_slice-requires g c =
    let f = fits g (goal.at.copy_from_slice-requires g c).In_ok-incumbent in
    let same = ap length c.as_slice.ensures.value in
    omega (arith, c.len-legs.ensures.value, length-take c.len-legs.result c.args.memory.now)

pub returns-clause-unique : goal.returns-clause-unique
returns-clause-unique g c = least_regret_is_unique
