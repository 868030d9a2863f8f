-- The incumbent, and what a part of the search does to it.
use Rattle.std.specs.Prelude.{◌≡◌, ℕ, ◌<◌, Bool, IsTrue, ◌↔◌, ◌⊎◌, List, ◌∷◌, ◌++◌, length, Some, None, Option, IfSome, MatchOption}
use Rattle.chart.specs.Limits.{max_fixes, max_legs}
use Rattle.chart.specs.Regret.{Query, query, IsRoute, time, HasRegret, IsPreferred, IsLeastRegret}
use Rattle.chart.specs.Floors.{IsPrefix, highs, IsFloor, NoRouteExtends}
use Rattle.search.specs.Snapshots.{snapshot_fixes, snapshot_legs}
use Rattle.search.specs.Walks.{AreFlagsOf, IsWalk}
use Rattle.pursuit.specs.Pursuits.{IsBelowRegrets}
use Rattle.pursuit.specs.Answers.{IsPursuit}
use Rattle.least.specs.Bounds.{most_regret, ShowsWorse}
use Rattle.least.specs.declared.branch_and_bound.Incumbent.{Incumbent}
use Rattle.least.specs.declared.branch_and_bound.BranchAndBound.{BranchAndBound}

-- the query that is searched
abbrev pub searched_query : BranchAndBound → Query
searched_query s = query (snapshot_legs s.snapshot.now) s.ends.from s.ends.to

-- an incumbent is a route and has its regret
pub record IsRouteWithRegret (t : Query) (b : Incumbent) : Type 0 where
  pub is_route : IsRoute t b.list.items
  pub regret : HasRegret t b.list.items b.regret

-- where there is an incumbent, it is a route and has its regret
abbrev pub IsValidIncumbent : Query → Option Incumbent → Type 0
IsValidIncumbent t None = Unit {0}
IsValidIncumbent t (Some b) = IsRouteWithRegret t b

-- q cannot replace the incumbent: it is that, or has more regret, or as much and comes later
abbrev pub Dominates : Query → Option Incumbent → List ℕ → Type 0
Dominates t None q = ⊥
Dominates t (Some b) q = (y : ℕ) → HasRegret t q y → (b.list.items ≡ q) ⊎ IsPreferred b.regret b.list.items y q

-- incumbent' is valid, and dominates what incumbent dominated and every route in S
pub record IsSearched (t : Query) (incumbent incumbent' : Option Incumbent) (S : List ℕ → Type 0) : Type 0 where
  pub is_valid : IsValidIncumbent t incumbent'
  pub kept : (q : List ℕ) → IsRoute t q → Dominates t incumbent q → Dominates t incumbent' q
  pub all : (q : List ℕ) → IsRoute t q → S q → Dominates t incumbent' q

-- the search s' has an incumbent that dominates what that of s dominated and every route in S
abbrev pub Searches : BranchAndBound → BranchAndBound → (List ℕ → Type 0) → Type 0
Searches s s' S = IsSearched (searched_query s) s.incumbent s'.incumbent S

-- the search is what it was, except for its incumbent
abbrev pub ChangesOnlyIncumbent : BranchAndBound → BranchAndBound → Type 0
ChangesOnlyIncumbent s s' = s' ≡ record s { incumbent = s'.incumbent }

-- q is p
abbrev pub IsOnly : List ℕ → List ℕ → Type 0
IsOnly p q = q ≡ p

-- q begins with ks and then the leg k
abbrev pub ExtendsBy : List ℕ → ℕ → List ℕ → Type 0
ExtendsBy ks k q = (rest : List ℕ) × (q ≡ ks ++ k ∷ rest)

-- q begins with ks and then a leg below `limit`
abbrev pub ExtendsBelow : List ℕ → ℕ → List ℕ → Type 0
ExtendsBelow ks limit q = (k : ℕ) × (k < limit) × ExtendsBy ks k q

-- no route that begins with ks could replace the incumbent
abbrev pub IsPrunable : Query → List ℕ → Option Incumbent → Type 0
IsPrunable t ks incumbent = (q : List ℕ) → IsRoute t q → IsPrefix ks q → Dominates t incumbent q

-- no route that begins with the chain of the search could replace its incumbent
abbrev pub HasPrunableChain : BranchAndBound → Type 0
HasPrunableChain s = IsPrunable (searched_query s) s.chain.items s.incumbent

-- the bound x of the chain ks shows that no route that begins with it could replace the incumbent: each is worse, or has more
-- regret than any route has
abbrev pub ShowsPrunable : ℕ → List ℕ → Option Incumbent → Type 0
ShowsPrunable x ks None = most_regret < x
ShowsPrunable x ks (Some b) = ShowsWorse x ks b.regret b.list.items

-- the bound x of the search's chain shows it
abbrev pub BoundShows : BranchAndBound → ℕ → Type 0
BoundShows s x = ShowsPrunable x s.chain.items s.incumbent

-- the floor of the search's chain shows it, or the chain has none: no route begins with it
abbrev pub FloorShows : BranchAndBound → Type 0
FloorShows s =
    NoRouteExtends (searched_query s) s.chain.items
    ⊎ ((x : ℕ) × IsFloor (searched_query s) s.chain.items x × BoundShows s x)

-- r tells whether a bound of the search's chain shows it, of which no more is known than that no route in the chain has a regret
-- below it
abbrev pub TellsByBound : BranchAndBound → Bool → Type 0
TellsByBound s r = (x : ℕ) × IsBelowRegrets (searched_query s) s.chain.items x × (IsTrue r ↔ BoundShows s x)

-- r tells whether there is a reason to prune the search's chain: a bound where it has a pursuit, and else the floor
abbrev pub TellsReason : BranchAndBound → Bool → Type 0
TellsReason s r = MatchOption s.pursuit (IsTrue r ↔ FloorShows s) (λ _. TellsByBound s r)

-- where the search has a pursuit, it is one of its query
abbrev pub HasValidPursuit : BranchAndBound → Type 0
HasValidPursuit s = IfSome s.pursuit (λ p. IsPursuit (searched_query s) p.now)

-- the search is at the fix `here`, where its chain ends; just the fixes of the chain are used, just its legs are flagged, and
-- their high times have the sum high
pub record IsReady (s : BranchAndBound) (here : ℕ) : Type 0 where
  pub leaves : s.ends.from < snapshot_fixes s.snapshot.now
  pub useds : length s.used ≡ max_fixes
  pub places : length s.flags ≡ max_legs
  pub walk : IsWalk (snapshot_legs s.snapshot.now) s.ends.from s.chain.items here s.used
  pub flagged : AreFlagsOf s.flags s.chain.items
  pub sums : s.high ≡ time (highs (snapshot_legs s.snapshot.now)) s.chain.items
  pub is_valid : IsValidIncumbent (searched_query s) s.incumbent
  pub pursued : HasValidPursuit s

-- the incumbent is the route of least regret, or there is none and there is no route
abbrev pub IsOptimal : Query → Option Incumbent → Type 0
IsOptimal t None = (q : List ℕ) → IsRoute t q → ⊥
IsOptimal t (Some b) = IsLeastRegret t b.list.items b.regret
