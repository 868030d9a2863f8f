-- What a session means.
use Rattle.std.specs.Prelude.{ℕ, List, map, Some, None, Option, Vec}
use Rattle.std.specs.declared.alloc.Global.{Global}
use Rattle.chart_format.specs.Format.{Name}
use Rattle.reader.specs.declared.file_index.FileIndex.{FileIndex}
use Rattle.reader.specs.Readings.{indexed_names}
use Rattle.search.specs.declared.snapshot.Snapshot.{Snapshot}
use Rattle.search.specs.Snapshots.{snapshot_fixes, snapshot_legs}
use Rattle.plan.specs.Plans.{chart_of_draft, ends_of_draft, chart_of, ledger_of, status_at_close}
use Rattle.console.specs.declared.plan_state.PlanState.{PlanState}
use Rattle.console.specs.declared.plan_state.PlanState.TheVariants as state
use Rattle.console.specs.declared.current_chart.CurrentChart.{CurrentChart}
use Rattle.console.specs.declared.session.Session.{Session}
use Rattle.console.specs.Models.{ChartModel, CurrentModel, PlanModel, vacant, draft, filed, closed, SessionModel}

-- the chart that a snapshot means
abbrev pub chart_model : Snapshot → ChartModel
chart_model chart = record { fixes = snapshot_fixes chart; legs = snapshot_legs chart }

-- the bytes of a file, if there is one
abbrev pub bytes_of : Option (Vec ℕ Global) → Option (List ℕ)
bytes_of (Some file) = Some file.items
bytes_of None = None

-- the names of an index, if there is one
abbrev pub names_if_any : Option FileIndex → Option (List Name)
names_if_any (Some index) = Some (indexed_names index)
names_if_any None = None

-- what the parts of a session mean
abbrev pub current_model : CurrentChart → CurrentModel
current_model current = record { chart = chart_model current.chart; names = names_if_any current.index }

abbrev pub current_if_any : Option CurrentChart → Option CurrentModel
current_if_any (Some current) = Some (current_model current)
current_if_any None = None

abbrev pub plan_model : PlanState → PlanModel
plan_model state.Vacant = vacant
plan_model (state.Draft plan) = draft (chart_model (chart_of_draft plan)) (ends_of_draft plan)
plan_model (state.Filed plan) = filed (chart_model (chart_of plan)) (ledger_of snapshot_legs plan)
plan_model (state.Closed plan) = closed (status_at_close plan)

abbrev pub plan_models : List PlanState → List PlanModel
plan_models plans = map plan_model plans

-- and the session
abbrev pub session_of : Session → SessionModel
session_of session = record { current = current_if_any session.current_chart; plans = plan_models session.plans }
