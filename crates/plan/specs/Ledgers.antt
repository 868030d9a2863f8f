-- A plan's ledger: what its amendments come to. It starts at filing, and is then kept from what is asked of the plan alone.
use Rattle.std.specs.Prelude.{ℕ, ◌+◌, ◌==◌, ◌&&◌, ◌||◌, not, nat_lt, nat_le, Bool, false, cond, List, [], ◌∷◌, ◌++◌, length, slice_set}
use Rattle.std.specs.List.{filter, list_any}
use Rattle.chart.specs.declared.leg.Leg.{Leg}
use Rattle.chart.specs.declared.Ends.{Ends}
use Rattle.chart.specs.Legs.{leg_at}
use Rattle.chart.specs.Limits.{max_seconds}
use Rattle.chart.specs.Outcomes.{Outcome, values, refused}
use Rattle.chart.specs.Regret.{Query, query}
use Rattle.plan.specs.declared.amendment.Change.{Change}
use Rattle.plan.specs.declared.amendment.Change.TheVariants.{Close, Times, Restore}
use Rattle.plan.specs.declared.amendment.Amendment.{Amendment}
use Rattle.plan.specs.declared.refusals.AmendRefusal.{AmendRefusal}
use Rattle.plan.specs.declared.refusals.AmendRefusal.TheVariants.{NoSuchLeg, BadTimes, LastRevision, OtherRevision, NotAmended, NoPlace}
use Rattle.plan.specs.Refusals.{amend_number}
use Rattle.plan.specs.Limits.{max_amended, last_revision}
use Rattle.plan.specs.Amendments.{changed_leg, restores}

-- the revision, the plan's legs, the numbers of those that stand amended, and the two ends
pub record Ledger : Type 0 where
  pub revision : ℕ
  pub legs : List Leg
  pub amended : List ℕ
  pub departure : ℕ
  pub destination : ℕ

-- at filing: revision 0, the chart's own legs, none of them amended, and the draft's ends
abbrev pub at_filing : List Leg → Ends → Ledger
at_filing own ends = record { revision = 0; legs = own; amended = []; departure = ends.from; destination = ends.to }

-- where its routes are wanted
abbrev pub query_of : Ledger → Query
query_of l = query l.legs l.departure l.destination

-- whether the number k stands among the amended ones
abbrev pub is_amended : Ledger → ℕ → Bool
is_amended l k = list_any (λ j. j == k) l.amended

-- whether a change gives times outside their limits
abbrev pub has_invalid_times : Change → Bool
has_invalid_times Close = false
has_invalid_times (Times times) = nat_lt times.high times.low || nat_lt max_seconds times.high
has_invalid_times Restore = false

-- whether a ground applies to an amendment
abbrev pub applies : Ledger → Amendment → AmendRefusal → Bool
applies l a NoSuchLeg = nat_le (length l.legs) a.leg
applies l a BadTimes = has_invalid_times a.change
applies l a LastRevision = l.revision == last_revision
applies l a OtherRevision = not (a.revision == l.revision)
applies l a NotAmended = restores a.change && not (is_amended l a.leg)
applies l a NoPlace = not (restores a.change) && (not (is_amended l a.leg) && (length l.amended == max_amended))

-- all grounds, in their order
abbrev pub all_grounds : List AmendRefusal
all_grounds = NoSuchLeg ∷ BadTimes ∷ LastRevision ∷ OtherRevision ∷ NotAmended ∷ NoPlace ∷ []

-- the grounds that apply to an amendment, in their order
unfoldable pub grounds : Ledger → Amendment → List AmendRefusal
grounds l a = filter (applies l a) all_grounds

-- a number is inserted unless it is there
abbrev pub insert_number : List ℕ → ℕ → List ℕ
insert_number ks k = cond (list_any (λ j. j == k) ks) ks (ks ++ k ∷ [])

-- a number is removed
abbrev pub remove_number : List ℕ → ℕ → List ℕ
remove_number ks k = filter (λ j. not (j == k)) ks

-- the amended numbers after a change of the leg k
abbrev pub amended_after : List ℕ → ℕ → Change → List ℕ
amended_after ks k change = cond (restores change) (remove_number ks k) (insert_number ks k)

-- the ledger once an amendment is granted, on a chart whose own legs are `own`
abbrev pub amended_by : List Leg → Ledger → Amendment → Ledger
amended_by own l a = record l {
  revision = l.revision + 1;
  legs = slice_set l.legs a.leg (changed_leg (leg_at own a.leg) (leg_at l.legs a.leg) a.change);
  amended = amended_after l.amended a.leg a.change;
}

-- the outcome where these grounds apply: the number of the first, or the next revision where there are none
abbrev pub outcome_by_grounds : List AmendRefusal → ℕ → Outcome
outcome_by_grounds [] revision = values ((revision + 1) ∷ [])
outcome_by_grounds (first ∷ more) revision = refused (amend_number first)

-- the ledger where these grounds apply: what it was, or amended where there are none
abbrev pub ledger_by : List AmendRefusal → List Leg → Ledger → Amendment → Ledger
ledger_by [] own l a = amended_by own l a
ledger_by (first ∷ more) own l a = l

-- the outcome of an amendment on a ledger
unfoldable pub outcome_on : Ledger → Amendment → Outcome
outcome_on l a = outcome_by_grounds (grounds l a) l.revision

-- the ledger after an amendment, granted or not
unfoldable pub ledger_after : List Leg → Ledger → Amendment → Ledger
ledger_after own l a = ledger_by (grounds l a) own l a
