-- What a session keeps between two commands: the chart that is current, and what is known of the plan of each number.
use Rattle.std.specs.Prelude.{ℕ, ◌≤◌, List, replicate, None, Option}
use Rattle.chart.specs.declared.leg.Leg.{Leg}
use Rattle.chart.specs.declared.Ends.{Ends}
use Rattle.chart_format.specs.Format.{Name}
use Rattle.plan.specs.declared.closed.Status.{Status}
use Rattle.plan.specs.Ledgers.{Ledger}

-- a chart by its meaning: how many fixes it has, and its legs
pub record ChartModel : Type 0 where
  pub fixes : ℕ
  pub legs : List Leg

-- the current chart, and the names of its fixes, which only a file has
pub record CurrentModel : Type 0 where
  pub chart : ChartModel
  pub names : Option (List Name)

-- What is known of the plan of one number: nothing; a draft, with the chart that it is made on and its ends; a filed plan, with the chart
-- that it was filed on and its ledger; or a closed one, with the status that is left of it.
pub data PlanModel : Type 0 where
  vacant : PlanModel
  draft : ChartModel → Ends → PlanModel
  filed : ChartModel → Ledger → PlanModel
  closed : Status → PlanModel

-- the current chart, if there is one, and the plans in the order of their numbers
pub record SessionModel : Type 0 where
  pub current : Option CurrentModel
  pub plans : List PlanModel

-- plans have the numbers from 1 to 9
abbrev pub last_plan : ℕ
last_plan = 9

-- the number of a plan
pub record IsPlanNumber (number : ℕ) : Type 0 where
  pub first : 1 ≤ number
  pub last : number ≤ last_plan

-- a session in which nothing was done: no chart, and no plan under any number
abbrev pub new_session : SessionModel
new_session = record { current = None; plans = replicate last_plan vacant }
