use Rattle.std.proofs.Common.{◌≡◌, ℕ, ◌+◌, ◌<◌, length, sym, ◌∙◌, subst, subst₂}
use Rattle.chart.specs.Legs.{leg_at}
use Rattle.search.specs.Snapshots.{snapshot_legs}
use Rattle.search.specs.internal.Invariants.{search_over, RelaxingInvariant, Advances}
use Rattle.search.proofs.LegsLeaving.{leaving_goes_on, leaving_ends}
use Rattle.search.proofs.RelaxingSteps.{relaxing_goes_on, relaxing_goes_past}
use Rattle.search.proofs.search_state.Search.relax_legs.Goals as goal

pub relax-requires-clause-relaxing : goal.relax-requires-clause-relaxing
relax-requires-clause-relaxing g c =
    let l = c.loop-j in
    let first = (leaving_goes_on _ _ (sym l.invariant.2.1 ∙ c.in-Some.ensures.steps)).0 in
    subst₂ (λ s k. (x : ℕ) × RelaxingInvariant (search_over (g.K.Kind.rule k) s x) l.self.label.now l.self.state.now c.args.u c.in-Some.j) (sym l.invariant.0) (sym l.invariant.1)
    (c.requires.0, relaxing_goes_on (l.invariant.2.2.relaxing c.requires.0 c.requires.1) first)

pub relax-requires-clause-leg : goal.relax-requires-clause-leg
relax-requires-clause-leg g c =
    let l = c.loop-j in
    let first = (leaving_goes_on _ _ (sym l.invariant.2.1 ∙ c.in-Some.ensures.steps)).0 in
    subst (λ s. (c.in-Some.j < length (snapshot_legs s)) × ((leg_at (snapshot_legs s) c.in-Some.j).from ≡ c.args.u)) (sym l.invariant.0) (first.there, first.leaves)

pub loop-j-preserved : goal.loop-j-preserved
loop-j-preserved g c =
    let l = c.loop-j in
    let next = leaving_goes_on _ _ (sym l.invariant.2.1 ∙ c.in-Some.ensures.steps) in
    let relaxed = subst₂ (λ s k. Advances (g.K.Kind.rule k) s c.args.u c.in-Some.j (c.in-Some.j + 1) l.self.label.now l.self.state.now c.relax.new.self.label.now c.relax.new.self.state.now) l.invariant.0 l.invariant.1 c.relax.ensures.advances in (
      c.relax.ensures.same.0 ∙ l.invariant.0,
      c.relax.ensures.same.1 ∙ l.invariant.1,
      (
        c.in-Some.j + 1,
        next.1,
        record {
          relaxing = λ departure relaxing. relaxed.relaxing departure (relaxing_goes_on (l.invariant.2.2.relaxing departure relaxing) next.0);
          count = relaxed.count ∙ l.invariant.2.2.count;
          settled = λ x d. l.invariant.2.2.settled x (relaxed.settled x d);
        },
      ),
    )

pub returns-clause-advances : goal.returns-clause-advances
returns-clause-advances g c =
    let l = c.loop-j in
    let none = leaving_ends _ _ (sym l.invariant.2.1 ∙ c.in-None.ensures.steps.0) in
    record {
      relaxing = λ departure relaxing. relaxing_goes_past (l.invariant.2.2.relaxing departure relaxing) none;
      count = l.invariant.2.2.count;
      settled = l.invariant.2.2.settled;
    }
