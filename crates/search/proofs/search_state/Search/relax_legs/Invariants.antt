use Rattle.std.proofs.Common.{◌≡◌, ℕ}
use Rattle.search.specs.LegsLeaving.{legs_leaving}
use Rattle.search.specs.Snapshots.{snapshot_legs}
use Rattle.search.specs.internal.Invariants.{Advances}
use Rattle.search.proofs.search_state.Search.relax_legs.Given as goal

abbrev pub invariant-loop-j : goal.invariant-loop-j
invariant-loop-j g l =
    (l.self.snapshot.now ≡ l.initial.self.snapshot.now) × (l.self.kind.now ≡ l.initial.self.kind.now)
    × ((low : ℕ) × (l.j-iterator ≡ legs_leaving (snapshot_legs l.initial.self.snapshot.now) l.u low)
    × Advances (g.K.Kind.rule l.initial.self.kind.now) l.initial.self.snapshot.now l.u 0 low l.initial.self.label.now l.initial.self.state.now l.self.label.now l.self.state.now)
