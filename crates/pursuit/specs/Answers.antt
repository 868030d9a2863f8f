-- What the calls of a pursuit answer: whether a pursuit serves a query, and what the bound of a chain is below.
use Rattle.std.specs.Prelude.{◌≡◌, ℕ, ◌+◌, ◌*◌, cond, List, slice_index_or}
use Rattle.std.proofs.Math.Dec.{ltb}
use Rattle.chart.specs.declared.Ends.{Ends}
use Rattle.chart.specs.declared.leg.Leg.{Leg}
use Rattle.chart.specs.Routes.{Leads}
use Rattle.chart.specs.Regret.{Query, query, time}
use Rattle.chart.specs.Floors.{highs}
use Rattle.search.specs.declared.snapshot.Snapshot.{Snapshot}
use Rattle.search.specs.Snapshots.{snapshot_legs}
use Rattle.search.specs.Walks.{AreFlagsOf}
use Rattle.pursuit.specs.Pursuits.{IsMarginTable, IsBelowRegrets}
use Rattle.pursuit.specs.declared.bounds.ChainState.{ChainState}
use Rattle.pursuit.specs.declared.pursuit.Pursuit.{Pursuit}
use Rattle.pursuit.specs.declared.margins.TheConstants.{OFFSET, PURSUIT_FIXES}

-- the query of a snapshot between two ends
abbrev pub query_on : Snapshot → Ends → Query
query_on snapshot ends = query (snapshot_legs snapshot) ends.from ends.to

-- the height of the fix v in a list with a place for each fix; 0 past its end
abbrev pub height_at : List ℕ → ℕ → ℕ
height_at heights v = slice_index_or heights v 0

-- the margin of the route at a and the rival at b, both below `fixes`, in a list that has for each a a place for each b;
-- past them 0
unfoldable pub margin_at : ℕ → List ℕ → ℕ → ℕ → ℕ
margin_at fixes margins a b =
    cond (ltb a fixes) (cond (ltb b fixes) (slice_index_or margins (PURSUIT_FIXES * a + b) 0) 0) 0

-- how many fixes the margins of a pursuit are of: it has none past them
abbrev pub fixes_of_margins : Pursuit → ℕ
fixes_of_margins p = p.fixes

-- the pursuit has no margin yet
abbrev pub HasNoMargin : Pursuit → Type 0
HasNoMargin p = (a b : ℕ) → margin_at p.fixes p.margins a b ≡ 0

-- the pursuit serves the query: its heights and margins are a table of margins, each of which the next move keeps
abbrev pub IsPursuit : Query → Pursuit → Type 0
IsPursuit t p = IsMarginTable t (height_at p.heights) OFFSET (margin_at p.fixes p.margins)

-- c is the state of the chain ks, which leaves s: the chain leads to its end, its high times have the sum high, and just
-- its legs are flagged
pub record IsStateOf (legs : List Leg) (s : ℕ) (ks : List ℕ) (c : ChainState) : Type 0 where
  pub leads : Leads legs s ks c.end
  pub sums : c.high ≡ time (highs legs) ks
  pub flagged : AreFlagsOf c.flags.now ks

-- no route that begins with a chain of the state c has a regret below x
abbrev pub IsBelowChainRegrets : Query → ChainState → ℕ → Type 0
IsBelowChainRegrets t c x = (ks : List ℕ) → IsStateOf t.legs t.source ks c → IsBelowRegrets t ks x
