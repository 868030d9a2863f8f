use Rattle.std.proofs.Common.{◌≡◌, ℕ, ◌+◌, ◌≤◌, Ok, arith, rules}
use Rattle.std.proofs.lemmas.Result.{err_from_is_err_and}
use Rattle.chart.specs.Regret.{query}
use Rattle.search.specs.Snapshots.{snapshot_legs}
use Rattle.search.specs.laws.SnapshotLaws.{snapshot_is_chart}
use Rattle.chart.proofs.RouteEnds.{route_leaves_fix}
use Rattle.regret.specs.Answers.{regret_outcome, IsRegretOutcome}
use Rattle.regret.proofs.RegretFromBest.{walked_to, regret_from_best, not_a_route}
use Rattle.regret.proofs.regrets.regret_on.Goals as goal

pub returns-in_err-walked : goal.returns-in_err-walked
returns-in_err-walked c =
    let s = c.args.snapshot.now in
    let ends = c.args.ends in
    let none = rw c.in_err-walked.ensures.ok_part at (walked_to _ _ _ c.args.ends.to _ c.walk.result _ _ c.walk.ensures c.filter.ensures (λ w b post. search rules)) in
    let p = err_from_is_err_and c.from_residual.result c.from_residual.ensures.1 in
    rw p.1 (not_a_route (query (snapshot_legs s) ends.from ends.to) c.args.list.now _ (λ is_route.
    none (route_leaves_fix (snapshot_legs s) (snapshot_is_chart s) ends.from ends.to c.args.list.now is_route) is_route.chain))

-- where both calls found something
found : (c : goal.In_ok-best) → (c.in_ok-best.best ≤ c.in_ok-walked.walked.high) × ((x : ℕ) → c.in_ok-walked.walked.high ≡ c.in_ok-best.best + x → IsRegretOutcome (query (snapshot_legs c.args.snapshot.now) c.args.ends.from c.args.ends.to) c.args.list.now (regret_outcome (Ok x)))
found c =
    let s = c.args.snapshot.now in
    let ends = c.args.ends in
    let w = c.in_ok-walked.walked in
    let along = rw c.in_ok-walked.ensures.ok_part at (walked_to _ _ _ c.args.ends.to _ c.walk.result _ _ c.walk.ensures c.filter.ensures (λ w b post. search rules)) in
    let best = rw c.in_ok-best.ensures.ok_part at c.least_time.ensures in
    regret_from_best (snapshot_legs s) ends.from ends.to c.args.list.now w along.0 along.1 c.in_ok-best.best best

pub overflow_sub-result : goal.overflow_sub-result
overflow_sub-result c = let below = (found c).0 in omega arith

pub returns : goal.returns
returns c = let f = found c in f.1 _ (omega (arith, f.0))
