-- What the calls of plans answer.
use Rattle.std.specs.Prelude.{◌≡◌, ℕ, ◌<◌, ◌≢◌, ◌⊎◌, [], ◌∷◌, Result}
use Rattle.chart.specs.declared.kind.QuickestTotal.{QuickestTotal}
use Rattle.chart.specs.Outcomes.{Outcome, values, refused, outcome_by}
use Rattle.chart.specs.Kinds.{quickest_rule, level_rule}
use Rattle.chart.specs.Best.{IsBest}
use Rattle.chart.specs.Regret.{Query}
use Rattle.least.specs.Answers.{HasNoRoute}
use Rattle.plan.specs.declared.closed.Status.{Status}
use Rattle.plan.specs.declared.refusals.AmendRefusal.{AmendRefusal}
use Rattle.plan.specs.declared.refusals.EndsRefusal.{EndsRefusal}
use Rattle.plan.specs.declared.refusals.BestRefusal.{BestRefusal}
use Rattle.plan.specs.Refusals.{amend_number, ends_number, best_number}

-- both numbers are fixes of a chart that has n
pub record AreFixes (n departure destination : ℕ) : Type 0 where
  pub departs : departure < n
  pub arrives : destination < n

-- the numbers are two different fixes of a chart that has n
pub record AreValidEnds (n departure destination : ℕ) : Type 0 where
  pub fixes : AreFixes n departure destination
  pub apart : departure ≢ destination

-- the number that ends are refused with: a number that is no fix comes first
abbrev pub EndsRefused : (n departure destination : ℕ) → ℕ → Type 0
EndsRefused n departure destination number =
    ((number ≡ 11) × (AreFixes n departure destination → ⊥))
    ⊎ ((number ≡ 12) × AreFixes n departure destination × (departure ≡ destination))

-- what is answered where ends are to be set: no value, or the number of the refusal
abbrev pub ends_outcome : {T : Type 0} → Result T EndsRefusal → Outcome
ends_outcome = outcome_by (λ _. []) ends_number

-- the outcome of ends on a chart that has n fixes
abbrev pub IsEndsOutcome : (n departure destination : ℕ) → Outcome → Type 0
IsEndsOutcome n departure destination (values []) = AreValidEnds n departure destination
IsEndsOutcome n departure destination (refused number) = EndsRefused n departure destination number
IsEndsOutcome n departure destination _ = ⊥

-- what each result says: the new revision; the seconds and the legs of the quickest total; the best level; or the number of the
-- refusal
abbrev pub amend_outcome : Result ℕ AmendRefusal → Outcome
amend_outcome result = outcome_by (λ revision. revision ∷ []) amend_number result

abbrev pub quickest_outcome : Result QuickestTotal BestRefusal → Outcome
quickest_outcome result = outcome_by (λ (x : QuickestTotal). x.seconds ∷ x.legs ∷ []) best_number result

abbrev pub level_outcome : Result ℕ BestRefusal → Outcome
level_outcome result = outcome_by (λ top. top ∷ []) best_number result

-- a status says the revision, the number of amended legs and the two ends
abbrev pub status_outcome : Status → Outcome
status_outcome x = values (x.revision ∷ x.amended ∷ x.ends.from ∷ x.ends.to ∷ [])

-- the quickest total over all routes of the query, or 25 where there is no route
abbrev pub IsQuickestOutcome : Query → Outcome → Type 0
IsQuickestOutcome t (values (seconds ∷ legs ∷ [])) =
    IsBest quickest_rule t.legs t.source t.destination (record { seconds = seconds; legs = legs })
IsQuickestOutcome t (refused n) = (n ≡ 25) × HasNoRoute t
IsQuickestOutcome t _ = ⊥

-- the best level over them, or 25 where there is no route
abbrev pub IsLevelOutcome : Query → Outcome → Type 0
IsLevelOutcome t (values (top ∷ [])) = IsBest level_rule t.legs t.source t.destination top
IsLevelOutcome t (refused n) = (n ≡ 25) × HasNoRoute t
IsLevelOutcome t _ = ⊥
