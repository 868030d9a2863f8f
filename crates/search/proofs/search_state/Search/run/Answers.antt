use Rattle.std.proofs.Common.{◌≡◌, ℕ, ◌≢◌, ◌<◌, length, set, sym, refl, ◌∙◌, subst, subst₂, arith, rules}
use Rattle.std.proofs.lemmas.List.{get_or_default}
use Rattle.chart.specs.Best.{IsBest}
use Rattle.search.specs.declared.search_state.FixState.TheVariants.{Reached}
use Rattle.search.specs.internal.Labels.{state_at, IsSettled, IsBestReached}
use Rattle.search.specs.Snapshots.{snapshot_fixes, snapshot_legs}
use Rattle.search.specs.laws.SnapshotLaws.{snapshot_is_chart}
use Rattle.search.specs.internal.Invariants.{SearchInvariant, search_over}
use Rattle.search.proofs.LabelsAreBest.{search_begins, none_settled, no_route_to_unsettled, picked_is_best}
use Rattle.search.proofs.search_state.Search.run.Goals as goal

pub loop-u-init : goal.loop-u-init
loop-u-init g c =
    let kind = c.args.self.now.kind.now in
    let s = c.args.self.now.snapshot.now in
    let from = c.args.ends.from in
    let to = c.args.ends.to in
    let q = search_over (g.K.Kind.rule kind) s from in
    let laws = g.K.Kind.laws kind in
    let begins = search_begins q laws (snapshot_is_chart s) c.requires.ends.0 in
    let unsettled = none_settled q laws (snapshot_is_chart s) c.requires.ends.0 to in
    (refl, refl, subst₂ (λ l m. SearchInvariant q l (set m from Reached) × (IsSettled (set m from Reached) to → ⊥)) (sym c.requires.unreached.0) (sym c.requires.unreached.1) (begins, unsettled))

pub returns-then-u-destination : goal.returns-then-u-destination
returns-then-u-destination g c =
    let kind = c.args.self.now.kind.now in
    let rule = g.K.Kind.rule kind in
    let s = c.args.self.now.snapshot.now in
    let l = c.loop-u.self in
    let u = c.in-Some.u in
    let from = c.args.ends.from in
    let rest = c.loop-u.invariant.2.0 in
    let is : u ≡ c.args.ends.to = search rules in
    let pick = subst₂ (λ s k. IsBestReached (g.K.Kind.rule k) l.label.now l.state.now (snapshot_fixes s) u) c.loop-u.invariant.0 c.loop-u.invariant.1 c.in-Some.ensures in
    let small : u < length l.label.now = omega (arith, s.is_chart.most, pick.small, rest.labels) in
    let read = get_or_default l.label.now u c.index-self-u.result rule.start small in
    subst₂ (IsBest rule (snapshot_legs s) from) is (sym read) (picked_is_best (g.K.Kind.laws kind) rest pick (λ e. c.requires.ends.2 (e ∙ is)))

pub returns : goal.returns
returns g c =
    let none = subst (λ s. (w : ℕ) → w < snapshot_fixes s → state_at c.loop-u.self.state.now w ≢ Reached) c.loop-u.invariant.0 c.in_default.ensures in
    no_route_to_unsettled (g.K.Kind.laws c.args.self.now.kind.now) c.loop-u.invariant.2.0 none c.args.ends.to c.loop-u.invariant.2.1
