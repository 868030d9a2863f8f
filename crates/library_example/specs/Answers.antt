-- What a file, an amendment and memory are answered.
use Rattle.std.specs.Prelude.{◌≡◌, ℕ, ◌-◌, List, [], ◌∷◌, length, map, Ok, Err, Result}
use Rattle.chart.specs.Limits.{max_legs}
use Rattle.chart.specs.Outcomes.{values, refused}
use Rattle.chart.specs.declared.leg.Leg.{Leg}
use Rattle.chart.specs.Rows.{row_of_leg}
use Rattle.chart_format.specs.Format.{Name, Means}
use Rattle.chart_format.specs.Faults.{IsFaultOf}
use Rattle.chart_format.specs.Reports.{chart_report}
use Rattle.least.specs.declared.routes.FoundRoute.{FoundRoute}
use Rattle.least.specs.declared.refusals.RouteRefusal.{RouteRefusal}
use Rattle.least.specs.Answers.{route_outcome, IsRouteOutcome}
use Rattle.plan.specs.declared.amendment.Amendment.{Amendment}
use Rattle.plan.specs.declared.refusals.AmendRefusal.{AmendRefusal}
use Rattle.plan.specs.Refusals.{amend_number}
use Rattle.plan.specs.Ledgers.{Ledger, at_filing, query_of, outcome_on, ledger_after}
use Rattle.library_example.specs.declared.NoAnswer.{NoAnswer}
use Rattle.library_example.specs.declared.NoAnswer.TheVariants.{File, Amendment as NotAmended, Route as NotRouted}

-- the ledger at filing of a plan from the first to the last of so many fixes
abbrev pub filed_on : ℕ → List Leg → Ledger
filed_on fixes legs = at_filing legs (record { from = 0; to = fixes - 1 })

-- the file is that of a chart with so many fixes and these legs
pub record IsFileOf (file : List ℕ) (fixes : ℕ) (legs : List Leg) : Type 0 where
  pub names : List Name
  pub as_many : fixes ≡ length names
  pub means : Means file names (map row_of_leg legs)

-- the plan on the file's chart is amended, and its route is answered
pub record IsRoutedAfter (file : List ℕ) (a : Amendment) (memory : List ℕ) (answer : Result FoundRoute RouteRefusal) (memory' : List ℕ) : Type 0 where
  pub fixes : ℕ
  pub legs : List Leg
  pub of_file : IsFileOf file fixes legs
  pub revision : ℕ
  pub granted : outcome_on (filed_on fixes legs) a ≡ values (revision ∷ [])
  pub routed : IsRouteOutcome (query_of (ledger_after legs (filed_on fixes legs) a)) fixes memory (route_outcome answer) memory'

-- the plan on the file's chart is not amended
pub record IsAmendmentRefused (file : List ℕ) (a : Amendment) (e : AmendRefusal) : Type 0 where
  pub fixes : ℕ
  pub legs : List Leg
  pub of_file : IsFileOf file fixes legs
  pub refusal : outcome_on (filed_on fixes legs) a ≡ refused (amend_number e)

-- the fault of the file, the refusal of the amendment or of the route, or the route; what is refused leaves the memory what it was
abbrev pub IsAnswerAfter : (file : List ℕ) (a : Amendment) (memory : List ℕ) → Result FoundRoute NoAnswer → (memory' : List ℕ) → Type 0
IsAnswerAfter file a memory (Err (File fault)) memory' = IsFaultOf file max_legs (chart_report fault) × (memory' ≡ memory)
IsAnswerAfter file a memory (Err (NotAmended e)) memory' = IsAmendmentRefused file a e × (memory' ≡ memory)
IsAnswerAfter file a memory (Err (NotRouted e)) memory' = IsRoutedAfter file a memory (Err e) memory'
IsAnswerAfter file a memory (Ok found) memory' = IsRoutedAfter file a memory (Ok found) memory'
