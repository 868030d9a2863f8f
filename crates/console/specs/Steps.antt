-- The step of a session: what a command is answered, and the session after it.
use Rattle.std.specs.Prelude.{◌≡◌, ℕ, ◌-◌, ◌*◌, ◌<◌, ◌⊎◌, List, length, map, slice_get, slice_set, ⊤, Some, None, Option, Ok, Err, Result}
use Rattle.chart.specs.declared.row.Row.{Row}
use Rattle.chart.specs.declared.Ends.{Ends}
use Rattle.chart.specs.Rows.{row_of_leg}
use Rattle.chart.specs.Limits.{max_legs}
use Rattle.chart.specs.Refusals.{lattice_number}
use Rattle.chart.specs.Grid.{grid_legs, IsGridShape, HasValidGridTimes, LatticeRefused}
use Rattle.chart_format.specs.Format.{Name, Means, name_at, name_place}
use Rattle.chart_format.specs.Reports.{chart_report}
use Rattle.chart_format.specs.Faults.{IsFaultOf}
use Rattle.reader.specs.declared.file_index.Counts.{Counts}
use Rattle.reader.specs.Readings.{NameRefused, name_number}
use Rattle.plan.specs.Answers.{AreValidEnds, EndsRefused}
use Rattle.plan.specs.Refusals.{ends_number}
use Rattle.plan.specs.Ledgers.{Ledger, at_filing}
use Rattle.plan.specs.Plans.{status_of}
use Rattle.runs.specs.declared.call.Call.{Call}
use Rattle.runs.specs.declared.reply.Reply.{Reply}
use Rattle.runs.specs.Histories.{call_places, ledger_after_call}
use Rattle.runs.specs.RepliesTo.{IsReplyTo}
use Rattle.protocol.specs.declared.command.Command.{Command}
use Rattle.protocol.specs.declared.command.Command.TheVariants as command
use Rattle.protocol.specs.declared.command.LatticeRequest.{LatticeRequest}
use Rattle.protocol.specs.declared.command.PlanCommand.{PlanCommand}
use Rattle.protocol.specs.declared.command.PlanCommand.TheVariants as asked
use Rattle.protocol.specs.declared.command.PlanCall.{PlanCall}
use Rattle.protocol.specs.declared.command.PlanCall.TheVariants as asked_call
use Rattle.protocol.specs.declared.reply_line.Answer.{Answer}
use Rattle.protocol.specs.declared.reply_line.Answer.TheVariants as answer
use Rattle.protocol.specs.declared.rejection.AnyRefusal.TheVariants as refusal
use Rattle.protocol.specs.declared.rejection.Rejection.{Rejection}
use Rattle.protocol.specs.declared.rejection.Rejection.TheVariants.{Refused, Fault, Unreadable, WrongState}
use Rattle.protocol.specs.declared.rejection.CommandError.{CommandError}
use Rattle.protocol.specs.declared.rejection.CommandError.TheVariants.{Rejected, NoMemory}
use Rattle.console.specs.Models.{ChartModel, CurrentModel, PlanModel, vacant, draft, filed, closed, SessionModel, IsPlanNumber}
use Rattle.console.specs.Calls.{IsOutOfTurn, IsCallOf, answer_of}

-- Charts

-- the chart of a file: the one that the file means, with its names
pub record IsChartOfFile (file : List ℕ) (current : CurrentModel) : Type 0 where
  pub names : List Name
  pub rows : List Row
  pub means : Means file names rows
  pub fixes : current.chart.fixes ≡ length names
  pub legs : map row_of_leg current.chart.legs ≡ rows
  pub named : current.names ≡ Some names

-- the chart of a lattice: the grid that is asked for, which is within its limits, without names
pub record IsChartOfLattice (request : LatticeRequest) (current : CurrentModel) : Type 0 where
  pub shape : IsGridShape request.rows request.columns (length request.steps.items)
  pub times : HasValidGridTimes request.top request.steps.items
  pub fixes : current.chart.fixes ≡ request.columns * request.rows
  pub legs : map row_of_leg current.chart.legs ≡ grid_legs request.rows request.columns request.top request.steps.items
  pub unnamed : current.names ≡ None

-- how many fixes and legs a chart has
pub record AreCountsOf (chart : ChartModel) (counts : Counts) : Type 0 where
  pub fixes : counts.fixes ≡ chart.fixes
  pub legs : counts.legs ≡ length chart.legs

-- a session takes a chart for the current one
abbrev pub with_current : SessionModel → CurrentModel → SessionModel
with_current s current = record s { current = Some current }

-- why a file is not taken: the fault that is owed to it
abbrev pub IsOwedToFile : List ℕ → Rejection → Type 0
IsOwedToFile file (Fault fault) = IsFaultOf file max_legs (chart_report fault)
IsOwedToFile _ _ = ⊥

-- a file that means a chart is taken, with its counts for an answer; where it is not taken, the session stays what it was
abbrev pub IsFileStep : SessionModel → List ℕ → Result Answer Rejection → SessionModel → Type 0
IsFileStep s file (Ok (answer.Chart counts)) s' =
    (current : CurrentModel) × IsChartOfFile file current × AreCountsOf current.chart counts × (s' ≡ with_current s current)
IsFileStep s file (Err why) s' = IsOwedToFile file why × (s' ≡ s)
IsFileStep _ _ _ _ = ⊥

-- of a chart command, where `file` is what the path led to
abbrev pub IsChartStep : SessionModel → Option (List ℕ) → Rejection → Result Answer Rejection → SessionModel → Type 0
IsChartStep s (Some file) unreadable result s' = IsFileStep s file result s'
IsChartStep s None unreadable result s' = (result ≡ Err unreadable) × (s' ≡ s)

-- why a lattice is not taken: the refusal that is owed to it
abbrev pub IsOwedToLattice : LatticeRequest → Rejection → Type 0
IsOwedToLattice request (Refused (refusal.Lattice why)) =
    LatticeRefused request.rows request.columns request.top request.steps.items (lattice_number why)
IsOwedToLattice _ _ = ⊥

-- a lattice within its limits is taken, with its counts for an answer; where it is not taken, the session stays what it was
abbrev pub IsLatticeStep : SessionModel → LatticeRequest → Result Answer Rejection → SessionModel → Type 0
IsLatticeStep s request (Ok (answer.Lattice counts)) s' =
    (current : CurrentModel) × IsChartOfLattice request current × AreCountsOf current.chart counts × (s' ≡ with_current s current)
IsLatticeStep s request (Err why) s' = IsOwedToLattice request why × (s' ≡ s)
IsLatticeStep _ _ _ _ = ⊥

-- Names

-- the name of the fix k of these, and its place in the file
pub record IsNameOf (names : List Name) (k : ℕ) (text : List ℕ) (place : ℕ) : Type 0 where
  pub there : k < length names
  pub same : text ≡ name_at names k
  pub at : place ≡ name_place names k

-- what is answered where one of these names is asked: the name, or that there is no such fix
abbrev pub IsNameAmong : List Name → ℕ → Result Answer Rejection → Type 0
IsNameAmong names fix (Ok (answer.Name text place)) = IsNameOf names fix text.bytes place
IsNameAmong names fix (Err (Refused (refusal.Name why))) = NameRefused names fix (name_number why)
IsNameAmong _ _ _ = ⊥

-- without names, as on a lattice, it is out of turn, and so it is without a chart
abbrev pub IsNameOn : Option (List Name) → ℕ → Result Answer Rejection → Type 0
IsNameOn (Some names) fix result = IsNameAmong names fix result
IsNameOn None fix result = IsOutOfTurn result

abbrev pub IsNameAnswer : Option CurrentModel → ℕ → Result Answer Rejection → Type 0
IsNameAnswer (Some current) fix result = IsNameOn current.names fix result
IsNameAnswer None fix result = IsOutOfTurn result

-- Plans

-- A plan becomes another, and this is answered. Where there is no other, the command is out of turn, and the plan stays what it was.
abbrev pub Becomes : Option PlanModel → Answer → PlanModel → Result Answer Rejection → PlanModel → Type 0
Becomes (Some next) granted plan result plan' = (result ≡ Ok granted) × (plan' ≡ next)
Becomes None granted plan result plan' = IsOutOfTurn result × (plan' ≡ plan)

-- the ends of a new draft on a chart: its first fix and its last
abbrev pub first_ends : ChartModel → Ends
first_ends chart = record { from = 0; to = chart.fixes - 1 }

-- a number is drafted, on the current chart, unless it has a draft or a filed plan
abbrev pub drafted_from : Option CurrentModel → PlanModel → Option PlanModel
drafted_from (Some current) vacant = Some (draft current.chart (first_ends current.chart))
drafted_from (Some current) (closed status) = Some (draft current.chart (first_ends current.chart))
drafted_from _ _ = None

-- a draft is filed, and a filed plan is closed
abbrev pub filed_from : PlanModel → Option PlanModel
filed_from (draft chart ends) = Some (filed chart (at_filing chart.legs ends))
filed_from _ = None

abbrev pub closed_from : PlanModel → Option PlanModel
closed_from (filed chart ledger) = Some (closed (status_of ledger))
closed_from _ = None

-- a draft takes two different fixes of its chart for its ends; others are refused, and it keeps those that it had
abbrev pub IsEndsAnswer : ChartModel → (before asked : Ends) → Result Answer Rejection → PlanModel → Type 0
IsEndsAnswer chart before asked (Ok (answer.Ends told)) plan' =
    AreValidEnds chart.fixes asked.from asked.to × (told ≡ asked) × (plan' ≡ draft chart asked)
IsEndsAnswer chart before asked (Err (Refused (refusal.Ends why))) plan' =
    EndsRefused chart.fixes asked.from asked.to (ends_number why) × (plan' ≡ draft chart before)
IsEndsAnswer _ _ _ _ _ = ⊥

abbrev pub IsEndsStep : Ends → PlanModel → Result Answer Rejection → PlanModel → Type 0
IsEndsStep asked (draft chart before) result plan' = IsEndsAnswer chart before asked result plan'
IsEndsStep asked plan result plan' = IsOutOfTurn result × (plan' ≡ plan)

-- A call of a filed plan is answered what a reply to it tells, where the call has as many places of memory as it takes. The ledger is then
-- the one that the call comes to.
pub record AnswersCall (chart : ChartModel) (ledger : Ledger) (asked : PlanCall) (result : Result Answer Rejection) (plan' : PlanModel) : Type 0 where
  pub call : Call
  pub reply : Reply
  pub memory : List ℕ
  pub memory' : List ℕ
  pub asks : IsCallOf asked (chart.fixes - 1) call
  pub room : length memory ≡ call_places call
  pub replied : IsReplyTo chart.fixes ledger call reply memory memory'
  pub told : result ≡ answer_of reply memory'
  pub becomes : plan' ≡ filed chart (ledger_after_call chart.legs ledger call)

-- of a closed plan only the status is left
abbrev pub IsCallStep : PlanCall → PlanModel → Result Answer Rejection → PlanModel → Type 0
IsCallStep asked (filed chart ledger) result plan' = AnswersCall chart ledger asked result plan'
IsCallStep asked_call.Status (closed status) result plan' = (result ≡ Ok (answer.Status status)) × (plan' ≡ closed status)
IsCallStep _ plan result plan' = IsOutOfTurn result × (plan' ≡ plan)

-- a command of the plan of a number, where this chart is current
abbrev pub IsPlanStep : Option CurrentModel → ℕ → PlanCommand → PlanModel → Result Answer Rejection → PlanModel → Type 0
IsPlanStep current number asked.Draft plan result plan' = Becomes (drafted_from current plan) (answer.Draft number) plan result plan'
IsPlanStep current number (asked.Ends ends) plan result plan' = IsEndsStep ends plan result plan'
IsPlanStep current number asked.File plan result plan' = Becomes (filed_from plan) (answer.File 0) plan result plan'
IsPlanStep current number (asked.Call call) plan result plan' = IsCallStep call plan result plan'
IsPlanStep current number asked.Close plan result plan' = Becomes (closed_from plan) answer.Close plan result plan'

-- the plan of a number has its step, and every other plan stays what it was
pub record StepsPlan (s : SessionModel) (number : ℕ) (asked : PlanCommand) (result : Result Answer Rejection) (s' : SessionModel) : Type 0 where
  pub is_number : IsPlanNumber number
  pub before : PlanModel
  pub after : PlanModel
  pub was : slice_get s.plans (number - 1) ≡ Some before
  pub step : IsPlanStep s.current number asked before result after
  pub becomes : s' ≡ record s { plans = slice_set s.plans (number - 1) after }

-- a number that no plan has is out of turn
pub record HasNoPlan (s : SessionModel) (number : ℕ) (result : Result Answer Rejection) (s' : SessionModel) : Type 0 where
  pub no_number : IsPlanNumber number → ⊥
  pub rejected : IsOutOfTurn result
  pub stays : s' ≡ s

-- Pictures

-- A filed plan is drawn, unless there is no memory for it, and any other is out of turn. What is drawn is not said.
abbrev pub IsPictureOf : PlanModel → Result Answer CommandError → Type 0
IsPictureOf (filed chart ledger) (Ok (answer.Picture svg)) = ⊤
IsPictureOf (filed chart ledger) (Err (NoMemory _)) = ⊤
IsPictureOf (filed chart ledger) _ = ⊥
IsPictureOf _ result = result ≡ Err (Rejected WrongState)

-- the plan of a number is drawn
pub record DrawsPlan (s : SessionModel) (number : ℕ) (result : Result Answer CommandError) : Type 0 where
  pub is_number : IsPlanNumber number
  pub plan : PlanModel
  pub was : slice_get s.plans (number - 1) ≡ Some plan
  pub drawn : IsPictureOf plan result

-- a number that no plan has is out of turn
pub record DrawsNoPlan (number : ℕ) (result : Result Answer CommandError) : Type 0 where
  pub no_number : IsPlanNumber number → ⊥
  pub rejected : result ≡ Err (Rejected WrongState)

-- Sessions

-- a command that asks for no memory has its step, with an answer or a rejection
abbrev pub AsksForNoMemory : (Result Answer Rejection → Type 0) → Result Answer CommandError → Type 0
AsksForNoMemory step (Ok answer) = step (Ok answer)
AsksForNoMemory step (Err (Rejected why)) = step (Err why)
AsksForNoMemory step (Err (NoMemory _)) = ⊥

-- What a command is answered, and the session after it; `file` has the bytes to which the path of a chart command led. A picture alone asks
-- for memory.
abbrev pub IsSessionStep : SessionModel → Command → (file : Option (List ℕ)) → Result Answer CommandError → SessionModel → Type 0
IsSessionStep s (command.Chart path) file result s' = AsksForNoMemory (λ r. IsChartStep s file (Unreadable path) r s') result
IsSessionStep s (command.Lattice request) file result s' = AsksForNoMemory (λ r. IsLatticeStep s request r s') result
IsSessionStep s (command.Name fix) file result s' = AsksForNoMemory (λ r. IsNameAnswer s.current fix r × (s' ≡ s)) result
IsSessionStep s (command.Plan number asked) file result s' =
    AsksForNoMemory (λ r. StepsPlan s number asked r s' ⊎ HasNoPlan s number r s') result
IsSessionStep s (command.Picture number path) file result s' =
    (DrawsPlan s number result ⊎ DrawsNoPlan number result) × (s' ≡ s)
