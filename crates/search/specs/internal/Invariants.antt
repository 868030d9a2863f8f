-- How a search stands between two steps, and what a step does.
use Rattle.std.specs.Prelude.{◌≡◌, ℕ, ◌+◌, ◌<◌, ◌≤◌, List, length, replicate, ◌≢◌, slice_set}
use Rattle.chart.specs.declared.leg.Leg.{Leg}
use Rattle.chart.specs.Legs.{leg_at}
use Rattle.chart.specs.Limits.{max_fixes}
use Rattle.chart.specs.Routes.{Leaves, IsChain, fixes_of_chain, IsIn}
use Rattle.chart.specs.Kinds.{Rule}
use Rattle.chart.specs.Best.{total}
use Rattle.search.specs.declared.search_state.FixState.{FixState}
use Rattle.search.specs.declared.search_state.FixState.TheVariants.{Unreached, Reached}
use Rattle.search.specs.declared.snapshot.Snapshot.{Snapshot}
use Rattle.search.specs.Snapshots.{snapshot_fixes, snapshot_legs}
use Rattle.search.specs.internal.Labels.{label_at, IsLabelled, IsSettled, settled_count}

-- a search: for which kind of total, over which fixes and legs, and from which fix
pub record SearchProblem (T : Type 0) : Type 1 where
  pub rule : Rule T
  pub fixes : ℕ
  pub legs : List Leg
  pub departure : ℕ

-- the search over a snapshot
abbrev pub search_over : {T : Type 0} → Rule T → Snapshot → ℕ → SearchProblem T
search_over rule snapshot departure = record { rule = rule; fixes = snapshot_fixes snapshot; legs = snapshot_legs snapshot; departure = departure }

-- A chain to v that has v's label for its total, and but for v meets settled fixes alone. So it has at most as
-- many legs as there are settled fixes.
pub record LabelPath {T : Type 0} (q : SearchProblem T) (label : List T) (state : List FixState) (v : ℕ) : Type 0 where
  pub by : List ℕ
  pub chain : IsChain q.legs q.departure by v
  pub sums : total q.rule q.legs by ≡ label_at q.rule label v
  pub short : length by ≤ settled_count state
  pub shorter : IsSettled state v → length by < settled_count state
  pub through : (x : ℕ) → IsIn x (fixes_of_chain q.legs q.departure by) → (x ≢ v) → IsSettled state x

-- the leg k, which leaves x, leads to a label that is as good as x's with the leg added
pub record IsRelaxed {T : Type 0} (q : SearchProblem T) (label : List T) (state : List FixState) (x k : ℕ) : Type 0 where
  pub labelled : IsLabelled state (leg_at q.legs k).to
  pub good : q.rule.order (label_at q.rule label (leg_at q.legs k).to)
      (q.rule.add (label_at q.rule label x) k (leg_at q.legs k))

-- the legs of settled fixes are relaxed, but for those of u from the number j on
pub record IsRelaxedUpTo {T : Type 0} (q : SearchProblem T) (label : List T) (state : List FixState) (u j : ℕ) : Type 0 where
  pub labels : length label ≡ max_fixes
  pub states : length state ≡ max_fixes
  pub within : (v : ℕ) → IsLabelled state v → v < q.fixes
  pub labelled : IsLabelled state q.departure
  pub begins : q.rule.order (label_at q.rule label q.departure) q.rule.start
  pub paths : (v : ℕ) → IsLabelled state v → LabelPath q label state v
  pub ahead : (x w : ℕ) → IsSettled state x → IsLabelled state w → (IsSettled state w → ⊥) →
      q.rule.order (label_at q.rule label x) (label_at q.rule label w)
  pub relaxed : (x k : ℕ) → Leaves q.legs x k → IsSettled state x → (x ≡ u → k < j) → IsRelaxed q label state x k

-- the legs of all settled fixes are relaxed
abbrev pub SearchInvariant : {T : Type 0} → SearchProblem T → List T → List FixState → Type 0
SearchInvariant q label state = IsRelaxedUpTo q label state 0 (length q.legs)

-- the legs of u, which was settled last, are relaxed up to the number j
pub record RelaxingInvariant {T : Type 0} (q : SearchProblem T) (label : List T) (state : List FixState) (u j : ℕ) : Type 0 where
  pub relaxed_up_to : IsRelaxedUpTo q label state u j
  pub here : IsSettled state u
  pub last : (x : ℕ) → IsSettled state x → q.rule.order (label_at q.rule label x) (label_at q.rule label u)

-- two fixes below n that are not the same
abbrev pub AreTwoFixes : ℕ → ℕ → ℕ → Type 0
AreTwoFixes n from to = (from < n) × (to < n) × (from ≢ to)

-- every label is the start, and every fix is unreached
abbrev pub NoneIsReached : {T : Type 0} → Rule T → List T → List FixState → Type 0
NoneIsReached rule label state = (label ≡ replicate max_fixes rule.start) × (state ≡ replicate max_fixes Unreached)

-- j is the number of a leg, which leaves u
abbrev pub IsLegOf : List Leg → ℕ → ℕ → Type 0
IsLegOf legs u j = (j < length legs) × ((leg_at legs j).from ≡ u)

-- A step leaves alone what is asked: snapshot and kind become snapshot' and kind', and are the same.
abbrev pub KeepsProblem : {K : Type 0} → Snapshot → K → Snapshot → K → Type 0
KeepsProblem snapshot kind snapshot' kind' = (snapshot' ≡ snapshot) × (kind' ≡ kind)

-- some search over the snapshot is at rest
abbrev pub HasSearchInvariant : {T : Type 0} → Rule T → Snapshot → List T → List FixState → Type 0
HasSearchInvariant rule snapshot label state =
    (departure : ℕ) × SearchInvariant (search_over rule snapshot departure) label state

-- some search over the snapshot is relaxing the legs of u, before its leg j
abbrev pub HasRelaxingInvariant : {T : Type 0} → Rule T → Snapshot → List T → List FixState → ℕ → ℕ → Type 0
HasRelaxingInvariant rule snapshot label state u j =
    (departure : ℕ) × RelaxingInvariant (search_over rule snapshot departure) label state u j

-- no fix is settled in state' that was not in state
abbrev pub SettlesNone : List FixState → List FixState → Type 0
SettlesNone state state' = (x : ℕ) → IsSettled state' x → IsSettled state x

-- of the fixes that were not settled in state, u alone is in state'
abbrev pub SettlesOnly : ℕ → List FixState → List FixState → Type 0
SettlesOnly u state state' = (x : ℕ) → (x ≢ u) → IsSettled state' x → IsSettled state x

-- The relaxing of u goes on from its leg i to its leg j: label and state become label' and state'. This holds from
-- any departure, and no fix is settled meanwhile.
pub record Advances {T : Type 0} (rule : Rule T) (snapshot : Snapshot) (u i j : ℕ)
    (label : List T) (state : List FixState) (label' : List T) (state' : List FixState) : Type 0 where
  pub relaxing : (departure : ℕ) → RelaxingInvariant (search_over rule snapshot departure) label state u i →
      RelaxingInvariant (search_over rule snapshot departure) label' state' u j
  pub count : settled_count state' ≡ settled_count state
  pub settled : SettlesNone state state'

-- The fix u is settled besides those that were, from any departure: label and state become label' and state'.
pub record Settles {T : Type 0} (rule : Rule T) (snapshot : Snapshot) (u : ℕ)
    (label : List T) (state : List FixState) (label' : List T) (state' : List FixState) : Type 0 where
  pub rest : (departure : ℕ) → SearchInvariant (search_over rule snapshot departure) label state →
      SearchInvariant (search_over rule snapshot departure) label' state'
  pub count : settled_count state' ≡ settled_count state + 1
  pub settled : SettlesOnly u state state'

-- what bringing the total t to the fix w, which is not settled, makes of labels and states
pub data IsImproved {T : Type 0} (rule : Rule T) (label : List T) (state : List FixState) (w : ℕ) (t : T)
    (label' : List T) (state' : List FixState) : Type 0 where
  took : label' ≡ slice_set label w t → state' ≡ slice_set state w Reached →
      (IsLabelled state w → rule.order t (label_at rule label w)) → IsImproved rule label state w t label' state'
  held : label' ≡ label → state' ≡ state → IsLabelled state w → rule.order (label_at rule label w) t →
      IsImproved rule label state w t label' state'
