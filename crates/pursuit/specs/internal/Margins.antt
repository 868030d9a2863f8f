-- How the code of a pursuit stands between two steps: single legs that were read, rows of margins that were tested, times of rivals.
use Rattle.std.specs.Prelude.{◌≡◌, ℕ, ◌+◌, ◌<◌, ◌≤◌, List, Some, None, Option, slice_index_or}
use Rattle.chart.specs.declared.leg.Leg.{Leg}
use Rattle.chart.specs.Legs.{leg_at}
use Rattle.chart.specs.Regret.{Query}
use Rattle.search.specs.Snapshots.{snapshot_fixes, snapshot_legs}
use Rattle.regret.specs.FlaggedTimes.{flagged_choice}
use Rattle.pursuit.specs.Rivals.{IsLegFor}
use Rattle.pursuit.specs.Pursuits.{IsSupported, RivalReaches}
use Rattle.pursuit.specs.Answers.{query_on, height_at, margin_at}
use Rattle.pursuit.specs.declared.bounds.ChainState.{ChainState}
use Rattle.pursuit.specs.declared.pursuit.Pursuit.{Pursuit}
use Rattle.pursuit.specs.declared.margin_table.MarginTable.{MarginTable}
use Rattle.pursuit.specs.declared.reaching.Reaching.{Reaching}
use Rattle.pursuit.specs.declared.margins.TheConstants.{OFFSET}

-- the leg of the number k, where it serves the query as S says
abbrev pub IsServingLeg : (ℕ → ℕ → Leg → Type 0) → Query → ℕ → Option Leg → Type 0
IsServingLeg S t k None = IsLegFor S t k → ⊥
IsServingLeg S t k (Some leg) = (leg ≡ leg_at t.legs k) × IsLegFor S t k

-- each margin of the route at a is kept by the next move, for each fix b of the chart
abbrev pub IsRowSupported : ℕ → Query → (ℕ → ℕ) → ℕ → (ℕ → ℕ → ℕ) → ℕ → Type 0
IsRowSupported fixes t height offset margin a = (b : ℕ) → b < fixes → IsSupported t height offset margin a b (margin a b)

-- and so is each margin
abbrev pub IsEachSupported : ℕ → Query → (ℕ → ℕ) → ℕ → (ℕ → ℕ → ℕ) → Type 0
IsEachSupported fixes t height offset margin = (a : ℕ) → a < fixes → IsRowSupported fixes t height offset margin a

-- the query and the margins of a table
abbrev pub table_query : MarginTable → Query
table_query l = query_on l.snapshot.now l.ends

abbrev pub table_margin : MarginTable → ℕ → ℕ → ℕ
table_margin l = margin_at (snapshot_fixes l.snapshot.now) l.margins.now

-- the same of a table
abbrev pub IsSupportedIn : MarginTable → ℕ → ℕ → ℕ → Type 0
IsSupportedIn l = IsSupported (table_query l) (height_at l.heights.now) OFFSET (table_margin l)

abbrev pub IsRowSupportedIn : MarginTable → ℕ → Type 0
IsRowSupportedIn l =
    IsRowSupported (snapshot_fixes l.snapshot.now) (table_query l) (height_at l.heights.now) OFFSET (table_margin l)

abbrev pub IsEachSupportedIn : MarginTable → Type 0
IsEachSupportedIn l =
    IsEachSupported (snapshot_fixes l.snapshot.now) (table_query l) (height_at l.heights.now) OFFSET (table_margin l)

-- the times by which a rival reaches fixes, in the choice w and by legs that leave fixes below the height h, where such a time
-- is known
abbrev pub AreReached : Query → (ℕ → ℕ) → (ℕ → ℕ) → ℕ → List (Option ℕ) → Type 0
AreReached t height w h times = (b d : ℕ) → slice_index_or times b None ≡ Some d → RivalReaches t height w h b d

-- the choice in which the flagged legs take their high time and all others their low
abbrev pub choice_of : Reaching → ℕ → ℕ
choice_of r = flagged_choice (snapshot_legs r.snapshot.now) r.flags.now

-- the same times, by the legs that a rival may take
abbrev pub AreTimesOf : Reaching → List (Option ℕ) → Type 0
AreTimesOf r = AreReached (query_on r.snapshot.now r.ends) (height_at r.heights.now) (choice_of r) r.below

-- x, where it is above 0, is the bound at the fix b: by the time of a rival who has reached b, and by the margin from there
pub record IsBoundAt (p : Pursuit) (c : ChainState) (times : List (Option ℕ)) (b x : ℕ) : Type 0 where
  pub time : ℕ
  pub reached : slice_index_or times b None ≡ Some time
  pub onward : height_at p.heights c.end ≤ height_at p.heights b
  pub has_margin : 1 ≤ margin_at p.fixes p.margins c.end b
  pub within : x + time + OFFSET ≤ c.high + margin_at p.fixes p.margins c.end b
