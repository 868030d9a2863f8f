-- What a snapshot means, and what it answers of the legs that leave a fix.
use Rattle.std.specs.Prelude.{◌≡◌, ℕ, ◌+◌, ◌<◌, ◌≤◌, List, length, take, map, None, Option}
use Rattle.chart.specs.declared.leg.Leg.{Leg}
use Rattle.chart.specs.Legs.{leg_at}
use Rattle.search.specs.declared.snapshot.Snapshot.{Snapshot}
use Rattle.search.specs.declared.snapshot.IndexedLeg.{IndexedLeg}
pub use Rattle.search.specs.LegsLeaving.{IsFirstLeg, legs_leaving}

-- the fixes that a snapshot means
abbrev pub snapshot_fixes : Snapshot → ℕ
snapshot_fixes s = s.fixes

-- the legs that a snapshot means: those of its first entries, as many as it counts
unfoldable pub snapshot_legs : Snapshot → List Leg
snapshot_legs s = take s.count (map (λ (l : IndexedLeg). l.leg) s.legs)

-- the first leg after the leg k that leaves the same fix, and none where k is no leg's number
pub record IsNextLeg (legs : List Leg) (k : ℕ) (r : Option ℕ) : Type 0 where
  pub after : k < length legs → IsFirstLeg legs (leg_at legs k).from (k + 1) r
  pub past : length legs ≤ k → r ≡ None
