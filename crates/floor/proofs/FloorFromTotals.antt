-- The floor of a chain from what was found of it: its high time, the least high time onward, and the time of the floor choice.
use Rattle.floor.specs.declared.refusals.FloorRefusal.{FloorRefusal}
use Rattle.std.proofs.Common.{ℕ, ◌+◌, ◌≤◌, List, Ok, Err, None, Option, ok_or, ap, ◌∙◌, Result, ◌≡◌}
use Rattle.chart.specs.declared.leg.Leg.{Leg}
use Rattle.chart.specs.Regret.{query}
use Rattle.chart.specs.Floors.{IsLeastExtension}
use Rattle.search.specs.declared.walked.Walked.{Walked}
use Rattle.floor.specs.Answers.{floor_outcome, IsFloorOutcome}
use Rattle.floor.specs.internal.Onward.{IsLeastAvoiding}
use Rattle.search.specs.Walks.{IsWalkedAlong}
use Rattle.floor.specs.internal.FloorChoice.{HasFloorChoiceTime}
use Rattle.floor.proofs.RoutesExtending.{least_extension_by}
use Rattle.floor.proofs.FloorBelowRegret.{floor_is_never_negative}

module _ (legs : List Leg) (s t : ℕ) (ks : List ℕ) (w : Walked) (along : IsWalkedAlong legs s ks w) (x : ℕ) (onward : IsLeastAvoiding legs w.used w.end t x) (b : ℕ) (floor_choice : HasFloorChoiceTime (query legs s t) ks b) where
  near : IsLeastExtension (query legs s t) ks (w.high + x)
  near = least_extension_by legs s t ks w.end w.used along.walk x onward w.high along.sums floor_choice.least.by floor_choice.least.is_route

  -- the time of the floor choice is not above that of the least extension, and the floor is what it is below
  pub floor_found : (b ≤ w.high + x) × ((y : ℕ) → w.high + x ≡ b + y → IsFloorOutcome (query legs s t) ks (floor_outcome (Ok y)))
  floor_found =
      let below = floor_is_never_negative (query legs s t) ks (w.high + x) b floor_choice.choice near floor_choice.floor_choice floor_choice.least in (
        below,
        λ y difference. (
          (w.end, along.walk.chain),
          record { a = w.high + x; b = b; v = floor_choice.choice; extension = near; floor_choice = floor_choice.floor_choice; least = floor_choice.least; difference = difference },
        ),
      )

-- what a call returns early that has no value, where the refusal is k
pub refused : {A : Type 0} (r : Result ℕ FloorRefusal) (y e u k : FloorRefusal) (o : Option A) → r ≡ Err y → y ≡ e → ◌≡◌ {A = Result A FloorRefusal} (Err e) (ok_or o u) → o ≡ None → u ≡ k → r ≡ Err k
refused {A = A} r y e u k o is same v n i = let f : ◌≡◌ {A = Result A FloorRefusal} (Err e) (Err u) = v ∙ ap (λ x. ok_or x u) n in cc
