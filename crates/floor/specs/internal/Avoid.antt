-- Sums of high times over legs that enter no used fix.
use Rattle.std.specs.Prelude.{ℕ, ◌+◌, ◌≤◌, Bool, true, false, List, Some, None, Option, slice_index_or}
use Rattle.chart.specs.Kinds.{Rule}

-- a total with a leg's seconds added, or none where the leg enters a used fix
abbrev pub add_off : Bool → ℕ → Option ℕ → Option ℕ
add_off true seconds t = None
add_off false seconds None = None
add_off false seconds (Some x) = Some (x + seconds)

-- fewer seconds is better, and none is worst
abbrev pub order_off : Option ℕ → Option ℕ → Type 0
order_off None None = Unit {0}
order_off (Some a) None = Unit {0}
order_off None (Some b) = ⊥
order_off (Some a) (Some b) = a ≤ b

-- high times add up, and the total is none once a used fix is entered
abbrev pub avoid_rule : List Bool → Rule (Option ℕ)
avoid_rule used = record {
  start = Some 0;
  add = λ t k l. add_off (slice_index_or used l.to false) l.high t;
  order = order_off;
}
