-- One plan of a session is replaced by its next state.
use Rattle.std.proofs.Common.{◌≡◌, ℕ, ◌<◌, List, length, get_or, set, ap, ◌∙◌}
use Rattle.std.specs.Prelude.{Some, slice_get}
use Rattle.std.proofs.lemmas.List.{map-set}
use Rattle.std.proofs.lemmas.Option.{slice_get-map, slice_get-get_or}
use Rattle.std.specs.Option.{option_map}
use Rattle.console.specs.declared.plan_state.PlanState.{PlanState}
use Rattle.console.specs.Sessions.{plan_model, plan_models}

-- the plan at a place, by what it means
pub plan_at : (plans : List PlanState) (i : ℕ) (d : PlanState) → i < length plans → slice_get (plan_models plans) i ≡ Some (plan_model (get_or plans i d))
plan_at plans i d there = slice_get-map plan_model plans i ∙ ap (option_map plan_model) (slice_get-get_or plans i d there)

-- and the plans after one is set
pub plans_set : (plans : List PlanState) (i : ℕ) (next : PlanState) → plan_models (set plans i next) ≡ set (plan_models plans) i (plan_model next)
plans_set plans i next = map-set plan_model plans i next
