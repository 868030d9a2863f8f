use Rattle.std.proofs.Common.{◌≡◌, ◌-◌}
use Rattle.chart.specs.Limits.{max_fixes}
use Rattle.search.specs.internal.Labels.{IsSettled, settled_count}
use Rattle.search.specs.internal.Invariants.{SearchInvariant, search_over}
use Rattle.search.proofs.search_state.Search.run.Given as goal

abbrev pub invariant-loop-u : goal.invariant-loop-u
invariant-loop-u g l =
    (l.self.snapshot.now ≡ l.initial.self.snapshot.now) × (l.self.kind.now ≡ l.initial.self.kind.now)
    × (SearchInvariant (search_over (g.K.Kind.rule l.initial.self.kind.now) l.initial.self.snapshot.now l.fn.ends.from) l.self.label.now l.self.state.now
    × (IsSettled l.self.state.now l.fn.ends.to → ⊥))

abbrev pub decreases-loop-u : goal.decreases-loop-u
decreases-loop-u g l = max_fixes - settled_count l.self.state.now
