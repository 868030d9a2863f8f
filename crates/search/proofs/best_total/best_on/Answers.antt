use Rattle.std.proofs.Common.{◌≡◌, sym, subst, arith}
use Rattle.chart.specs.Routes.{IsRouteBetween}
use Rattle.search.specs.Snapshots.{snapshot_legs}
use Rattle.search.specs.laws.SnapshotLaws.{snapshot_is_chart}
use Rattle.chart.proofs.RouteEnds.{route_leaves_fix, route_enters_fix, route_goes_away}
use Rattle.search.proofs.best_total.best_on.Goals as goal

pub returns-then-ends-snapshot : goal.returns-then-ends-snapshot
returns-then-ends-snapshot g c =
    let s = c.args.snapshot.now in
    let from = c.args.ends.from in
    let to = c.args.ends.to in
    λ ks r.
    let leaves = route_leaves_fix (snapshot_legs s) (snapshot_is_chart s) from to ks r in
    let enters = route_enters_fix (snapshot_legs s) (snapshot_is_chart s) from to ks r in
    let apart : from ≡ to → ⊥ = λ e. route_goes_away (snapshot_legs s) from ks (subst (λ t. IsRouteBetween (snapshot_legs s) from t ks) (sym e) r) in
    grind arith
