-- What calls make of a plan's ledger, one after the other.
use Rattle.std.specs.Prelude.{◌≡◌, ℕ, ◌+◌, List, [], ◌∷◌, ◌++◌, length, slice_set}
use Rattle.std.specs.List.{sum_by}
use Rattle.chart.specs.declared.leg.Leg.{Leg}
use Rattle.chart.specs.Legs.{leg_at}
use Rattle.chart.specs.Routes.{HasNoRepeats}
use Rattle.plan.specs.declared.amendment.Amendment.{Amendment}
use Rattle.plan.specs.declared.refusals.AmendRefusal.{AmendRefusal}
use Rattle.plan.specs.Amendments.{changed_leg}
use Rattle.plan.specs.Ledgers.{Ledger, grounds, ledger_after}
use Rattle.runs.specs.declared.call.Call.{Call}
use Rattle.runs.specs.declared.call.Call.TheVariants.{Amend, Route}

-- the ledger after one call: an amendment may alter it, and no other call does
abbrev pub ledger_after_call : List Leg → Ledger → Call → Ledger
ledger_after_call own l (Amend amendment) = ledger_after own l amendment
ledger_after_call own l _ = l

-- the ledger after some calls, on a chart whose own legs are `own`
unfoldable pub ledger_after_calls : List Leg → Ledger → List Call → Ledger
ledger_after_calls own l [] = l
ledger_after_calls own l (call ∷ calls) = ledger_after_calls own (ledger_after_call own l call) calls

-- a history in two parts is the history of both
abbrev pub HistoriesJoin : Type 0
HistoriesJoin = (own : List Leg) (l : Ledger) (first more : List Call)
    → ledger_after_calls own l (first ++ more) ≡ ledger_after_calls own (ledger_after_calls own l first) more

-- the amendment, where no ground applies to it
abbrev pub granted_where : List AmendRefusal → Amendment → List Amendment
granted_where [] amendment = amendment ∷ []
granted_where (first ∷ more) amendment = []

-- the amendment that a call is granted, if any
abbrev pub granted_by_call : Ledger → Call → List Amendment
granted_by_call l (Amend amendment) = granted_where (grounds l amendment) amendment
granted_by_call l _ = []

-- the amendments that are granted among the calls, in their order
unfoldable pub granted_amendments : List Leg → Ledger → List Call → List Amendment
granted_amendments own l [] = []
granted_amendments own l (call ∷ calls) = granted_by_call l call ++ granted_amendments own (ledger_after_call own l call) calls

-- the legs with some amendments applied, in their order
unfoldable pub apply_all : List Leg → List Leg → List Amendment → List Leg
apply_all own legs [] = legs
apply_all own legs (a ∷ more) = apply_all own (slice_set legs a.leg (changed_leg (leg_at own a.leg) (leg_at legs a.leg) a.change)) more

-- The ledger after the calls: its revision counts the granted amendments, and its legs are those before with just the granted
-- amendments applied, in their order. No number stands twice among the amended ones unless one did before.
pub record KeepsLedger (own : List Leg) (l : Ledger) (calls : List Call) : Type 0 where
  pub revision : (ledger_after_calls own l calls).revision ≡ l.revision + length (granted_amendments own l calls)
  pub legs : (ledger_after_calls own l calls).legs ≡ apply_all own l.legs (granted_amendments own l calls)
  pub departure : (ledger_after_calls own l calls).departure ≡ l.departure
  pub destination : (ledger_after_calls own l calls).destination ≡ l.destination
  pub no_repeats : HasNoRepeats l.amended → HasNoRepeats (ledger_after_calls own l calls).amended

-- every history keeps the ledger so
abbrev pub HistoriesKeepTheLedger : Type 0
HistoriesKeepTheLedger = (own : List Leg) (l : Ledger) (calls : List Call) → KeepsLedger own l calls

-- how many places of memory a call takes: a route call as many as it says, and any other none
abbrev pub call_places : Call → ℕ
call_places (Route places) = places
call_places _ = 0

-- how many places some calls take together
abbrev pub all_places : List Call → ℕ
all_places calls = sum_by call_places calls
