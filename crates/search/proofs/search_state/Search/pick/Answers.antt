use Rattle.std.proofs.Common.{◌<◌, arith, rules, refl}
use Rattle.std.proofs.lemmas.Iterator.{YieldsList-from_range}
use Rattle.std.proofs.lemmas.Iterator.Consumers.{YieldsList-from_filter, YieldsList-at}
use Rattle.chart.specs.Limits.{max_fixes}
use Rattle.search.specs.internal.Labels.{state_at}
use Rattle.search.specs.Snapshots.{snapshot_fixes}
use Rattle.search.specs.laws.SnapshotLaws.{snapshot_is_chart}
use Rattle.search.proofs.BestReached.{is_reached, picked, calls_within}
use Rattle.search.proofs.search_state.Search.pick.Goals as goal

pub reduce-requires-clause-callable : goal.reduce-requires-clause-callable
reduce-requires-clause-callable g c =
    let state = c.args.self.now.state.now in
    let n = snapshot_fixes c.args.self.now.snapshot.now in
    calls_within (g.K.Kind.laws c.args.self.now.kind.now) c.args.self.now.label.now state n _ _
    (YieldsList-from_filter _ (λ v. is_reached (state_at state v)) (YieldsList-at c.filter.ensures.source (YieldsList-from_range 0 n n refl (omega arith))) c.filter.ensures.closure (λ x b q k. search rules))
    (λ u v w f' k. search rules)
    (λ u v a b.
    let most = (snapshot_is_chart c.args.self.now.snapshot.now).most in
    let first : u < max_fixes = omega arith in
    let second : v < max_fixes = omega arith in
    search rules)

pub returns : goal.returns
returns g c =
    let state = c.args.self.now.state.now in
    let n = snapshot_fixes c.args.self.now.snapshot.now in
    picked (g.K.Kind.laws c.args.self.now.kind.now) c.args.self.now.label.now state n c.reduce.result c.reduce.ensures.ran
    (YieldsList-from_filter _ (λ v. is_reached (state_at state v)) (YieldsList-at c.filter.ensures.source (YieldsList-from_range 0 n n refl (omega arith))) c.filter.ensures.closure (λ x b q k. search rules))
    (λ u v w f' k. search rules)
