-- What the labels and states of a search say of the fixes, and which fix is picked.
use Rattle.std.specs.Prelude.{◌≡◌, ℕ, ◌<◌, Bool, true, false, List, Some, None, count_by, Option, ◌⊎◌, ◌≢◌, slice_index_or}
use Rattle.chart.specs.Kinds.{Rule}
use Rattle.search.specs.declared.search_state.FixState.{FixState}
use Rattle.search.specs.declared.search_state.FixState.TheVariants.{Unreached, Reached, Settled}

abbrev pub state_at : List FixState → ℕ → FixState
state_at state v = slice_index_or state v Unreached

abbrev pub label_at : {T : Type 0} → Rule T → List T → ℕ → T
label_at rule label v = slice_index_or label v rule.start

-- the fix v has a label
abbrev pub IsLabelled : List FixState → ℕ → Type 0
IsLabelled state v = state_at state v ≡ Unreached → ⊥

-- the label of the fix v does not change any more
abbrev pub IsSettled : List FixState → ℕ → Type 0
IsSettled state v = state_at state v ≡ Settled

abbrev pub is_settled : FixState → Bool
is_settled Unreached = false
is_settled Reached = false
is_settled Settled = true

-- how many fixes are settled
abbrev pub settled_count : List FixState → ℕ
settled_count state = count_by is_settled state

-- w is one of the fixes u and v, and as good as the other
abbrev pub IsBetterOf : {T : Type 0} → Rule T → List T → ℕ → ℕ → ℕ → Type 0
IsBetterOf rule label u v w =
    ((w ≡ v) × rule.order (label_at rule label v) (label_at rule label u))
    ⊎ ((w ≡ u) × rule.order (label_at rule label u) (label_at rule label v))

-- of the fixes below n, u is reached, and as good as each that is reached
pub record IsBestReached {T : Type 0} (rule : Rule T) (label : List T) (state : List FixState) (n u : ℕ) : Type 0 where
  pub small : u < n
  pub reached : state_at state u ≡ Reached
  pub first : (w : ℕ) → w < n → state_at state w ≡ Reached → rule.order (label_at rule label u) (label_at rule label w)

-- the fix that is picked of those below n, or none where none is reached
abbrev pub PicksBestReached : {T : Type 0} → Rule T → List T → List FixState → ℕ → Option ℕ → Type 0
PicksBestReached rule label state n None = (w : ℕ) → w < n → state_at state w ≢ Reached
PicksBestReached rule label state n (Some u) = IsBestReached rule label state n u
