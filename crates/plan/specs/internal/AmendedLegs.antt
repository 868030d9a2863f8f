-- Where the leg of a number stands among those that stand amended, and how they change. This is the plan's own way of keeping
-- them: what it comes to is said of ledgers.
use Rattle.std.specs.Prelude.{◌≡◌, ℕ, ◌<◌, ◌==◌, not, false, true, cond, List, [], ◌∷◌, length, Some, None, Option, Result, MatchOption, MatchResult}
use Rattle.std.specs.List.{filter, position}
use Rattle.chart.specs.declared.leg.Leg.{Leg}
use Rattle.chart.specs.Legs.{leg_at}
use Rattle.plan.specs.declared.amendment.AmendedLeg.{AmendedLeg}
use Rattle.plan.specs.declared.amendment.Amendment.{Amendment}
use Rattle.plan.specs.declared.amendment.Change.{Change}
use Rattle.plan.specs.declared.filed.Filed.{Filed}
use Rattle.plan.specs.declared.refusals.AmendRefusal.{AmendRefusal}
use Rattle.plan.specs.Limits.{last_revision, max_amended}
use Rattle.plan.specs.Amendments.{changed_leg, restores}
use Rattle.plan.specs.Ledgers.{Ledger, grounds}
use Rattle.plan.specs.Overlays.{overlay_leg}

-- where the leg of a number first stands among the amended ones
abbrev pub place_of : List AmendedLeg → ℕ → Option ℕ
place_of amended k = position (λ (a : AmendedLeg). a.number == k) amended

-- the amended legs with one inserted where one of its number is, or behind them
abbrev pub insert_amended : List AmendedLeg → AmendedLeg → List AmendedLeg
insert_amended [] amended = amended ∷ []
insert_amended (first ∷ more) amended = cond (first.number == amended.number) (amended ∷ more) (first ∷ insert_amended more amended)

-- the amended legs but for those of a number
abbrev pub remove_amended : List AmendedLeg → ℕ → List AmendedLeg
remove_amended amended k = filter (λ (a : AmendedLeg). not (a.number == k)) amended

-- the amended legs once what is given stands of the leg of a number
abbrev pub set_amended : List AmendedLeg → ℕ → Option AmendedLeg → List AmendedLeg
set_amended amended k None = remove_amended amended k
set_amended amended k (Some a) = insert_amended amended a

-- the leg of a number stands amended, or one more can
abbrev pub HasRoom : List AmendedLeg → ℕ → Type 0
HasRoom amended k = place_of amended k ≡ None → length amended < max_amended

-- two legs join the same fixes at the same top level
pub record JoinsSameFixes (a b : Leg) : Type 0 where
  pub from : a.from ≡ b.from
  pub to : a.to ≡ b.to
  pub top : a.top ≡ b.top

-- nothing refuses the amendment of the leg, which is the plan's
pub record IsGranted (l : Ledger) (a : Amendment) (leg : Leg) : Type 0 where
  pub free : grounds l a ≡ []
  pub before_last : l.revision < last_revision
  pub there : a.leg < length l.legs
  pub is : leg ≡ leg_at l.legs a.leg

-- a refusal is the first ground that applies
abbrev pub IsFirstGround : Ledger → Amendment → AmendRefusal → Type 0
IsFirstGround l a e = (more : List AmendRefusal) × (grounds l a ≡ e ∷ more)

-- the plan's leg once its amendment is granted, or why it is not
abbrev pub IsCheckResult : Ledger → Amendment → Result Leg AmendRefusal → Type 0
IsCheckResult l a r = MatchResult r (IsGranted l a) (IsFirstGround l a)

-- what is to stand of the leg of a number after a change: none where it is the chart's own again
abbrev pub IsEntryOf : ℕ → Leg → Change → Option AmendedLeg → Type 0
IsEntryOf k leg change r = MatchOption r (restores change ≡ true) (λ (a : AmendedLeg). (restores change ≡ false) × (a.number ≡ k)
    × ((own : Leg) → JoinsSameFixes own leg → overlay_leg own a ≡ changed_leg own leg change))

-- a plan is what it was but for its amended legs
pub record ChangesOnlyAmended {C : Type 0} (plan plan' : Filed C) (amended : List AmendedLeg) : Type 0 where
  pub chart : plan'.chart ≡ plan.chart
  pub ends : plan'.ends ≡ plan.ends
  pub revision : plan'.revision ≡ plan.revision
  pub items : plan'.amended.items ≡ amended
