-- What plans have, and what a filed plan means: as a chart, and as a ledger.
use Rattle.std.specs.Prelude.{◌≡◌, ℕ, List, length}
use Rattle.chart.specs.declared.leg.Leg.{Leg}
use Rattle.chart.specs.declared.Ends.{Ends}
use Rattle.plan.specs.declared.draft.Draft.{Draft}
use Rattle.plan.specs.declared.filed.Filed.{Filed}
use Rattle.plan.specs.declared.closed.Closed.{Closed}
use Rattle.plan.specs.declared.closed.Status.{Status}
use Rattle.plan.specs.Ledgers.{Ledger}
use Rattle.plan.specs.Overlays.{overlay, amended_numbers}

-- the chart of a draft, and its ends
abbrev pub chart_of_draft : {C : Type 0} → Draft C → C
chart_of_draft draft = draft.chart

abbrev pub ends_of_draft : {C : Type 0} → Draft C → Ends
ends_of_draft draft = draft.ends

-- a draft is what it was but for its ends
abbrev pub HasNewEnds : {C : Type 0} → (draft draft' : Draft C) → (departure destination : ℕ) → Type 0
HasNewEnds draft draft' departure destination = draft' ≡ record draft { ends = record { from = departure; to = destination } }

-- the chart of a filed plan, its ends and its revision
abbrev pub chart_of : {C : Type 0} → Filed C → C
chart_of plan = plan.chart

abbrev pub ends_of : {C : Type 0} → Filed C → Ends
ends_of plan = plan.ends

abbrev pub revision_of : {C : Type 0} → Filed C → ℕ
revision_of plan = plan.revision

-- the status that is left of a closed plan
abbrev pub status_at_close : {C : Type 0} → Closed C → Status
status_at_close closed = closed.status

-- the legs of a plan on a chart whose own legs `legs` gives
abbrev pub plan_legs : {C : Type 0} → (C → List Leg) → Filed C → List Leg
plan_legs legs plan = overlay (legs plan.chart) plan.amended.items

-- the ledger that a plan stands at
abbrev pub ledger_of : {C : Type 0} → (C → List Leg) → Filed C → Ledger
ledger_of legs plan = record {
  revision = plan.revision;
  legs = plan_legs legs plan;
  amended = amended_numbers plan.amended.items;
  departure = plan.ends.from;
  destination = plan.ends.to;
}

-- what a ledger answers of itself
abbrev pub status_of : Ledger → Status
status_of l = record { revision = l.revision; amended = length l.amended; ends = record { from = l.departure; to = l.destination } }
