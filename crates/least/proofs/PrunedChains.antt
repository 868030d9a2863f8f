-- When a chain may be pruned: a bound of the regrets of its routes shows it, or no route begins with it.
use Rattle.std.proofs.Common.{ℕ, ◌≤◌, List, [], Some, None, Option, Bool, IsTrue, ◌↔◌, sym, subst, inl, inr, ⊎_elim, arith}
use Rattle.std.proofs.lemmas.List.{append-nil}
use Rattle.chart.specs.Regret.{Query, IsRoute, HasRegret, IsPreferred}
use Rattle.chart.specs.Legs.{IsChart}
use Rattle.chart.specs.Routes.{LexBefore}
use Rattle.chart.specs.Floors.{highs, IsFloor}
use Rattle.chart.proofs.ShortRoutes.{routes_short}
use Rattle.search.specs.laws.SnapshotLaws.{snapshot_is_chart}
use Rattle.search.proofs.WalkedChains.{highs_small}
use Rattle.regret.proofs.WorstChoice.{legs_there, time_le}
use Rattle.regret.proofs.EveryRouteHasRegret.{every_route_has_a_regret}
use Rattle.floor.proofs.FloorBelowRegret.{floor_is_below_every_regret, floor_is_unique}
use Rattle.pursuit.specs.Pursuits.{IsBelowRegrets}
use Rattle.least.specs.Bounds.{most_regret, ComesBeforeAll, ShowsWorse}
use Rattle.least.specs.declared.branch_and_bound.BranchAndBound.{BranchAndBound}
use Rattle.least.specs.declared.branch_and_bound.Incumbent.{Incumbent}
use Rattle.least.specs.internal.BranchAndBound.{searched_query, IsPrunable, HasPrunableChain, ShowsPrunable, BoundShows, FloorShows, TellsByBound}
use Rattle.least.proofs.LexicalOrder.{lex_before_append}

-- a regret is small, since routes are short
regret_small : {fixes : ℕ} (t : Query) → IsChart fixes t.legs → (q : List ℕ) → IsRoute t q → (y : ℕ) → HasRegret t q y → y ≤ most_regret
regret_small {fixes = fixes} t is_chart q is_route y r =
    let short = routes_short fixes t.legs is_chart t.source t.destination q is_route in
    let small = highs_small t.legs q in
    let under = time_le r.choice (highs t.legs) q (λ k i. (r.chosen k (legs_there t.legs q t.source t.destination is_route.chain.leads k i)).1) in
    omega (arith, is_chart.most, r.loses.difference)

-- what a bound shows
pub shown_prunable : {fixes : ℕ} (t : Query) → IsChart fixes t.legs → (ks : List ℕ) (x : ℕ) → IsBelowRegrets t ks x → (incumbent : Option Incumbent) → ShowsPrunable x ks incumbent → IsPrunable t ks incumbent
shown_prunable t is_chart ks x below None more = λ q is_route on.
    absurd (every_route_has_a_regret t q is_route (λ y r. let small = regret_small t is_chart q is_route y r in let le = below q is_route on y r in omega arith))
shown_prunable t is_chart ks x below (Some b) (inl more) = λ q is_route on y r.
    let le = below q is_route on y r in inr (inl (omega arith))
shown_prunable t is_chart ks x below (Some b) (inr (e, all)) = λ q is_route on y r.
    let le = below q is_route on y r in
    let first = all q on in
    grind arith

-- of two lists, one comes before all that begin with the other where it comes before the other
pub before_all : (p ks : List ℕ) → LexBefore p ks ↔ ComesBeforeAll p ks
before_all p ks = (
  λ h q on. subst (λ l. LexBefore p l) (sym on.1) (lex_before_append p ks on.0 h),
  λ all. all ks ([], sym (append-nil ks)),
)

-- what the order of routes shows
pub preferred_shows : (y : ℕ) (p : List ℕ) (x : ℕ) (ks : List ℕ) (r : Bool) → IsTrue r ↔ IsPreferred y p x ks → IsTrue r ↔ ShowsWorse x ks y p
preferred_shows y p x ks r told = (
  λ is. ⊎_elim (λ less. inl less) (λ same. inr (same.0, (before_all p ks).0 same.1)) (told.0 is),
  λ shown. told.1 (⊎_elim (λ less. inl less) (λ same. inr (same.0, (before_all p ks).1 same.1)) shown),
)

-- a floor that is found tells what floors show
pub floor_tells : (s : BranchAndBound) (x : ℕ) (r : Bool) → IsFloor (searched_query s) s.chain.items x → IsTrue r ↔ BoundShows s x → IsTrue r ↔ FloorShows s
floor_tells s x r floor told = (
  λ is. inr (x, floor, told.0 is),
  λ shown. ⊎_elim
      (λ none. absurd (none floor.extension.by floor.extension.is_route floor.extension.extends))
      (λ some. told.1 (subst (λ y. BoundShows s y) (floor_is_unique (searched_query s) s.chain.items some.0 x some.1 floor) some.2))
      shown,
)

-- where a reason applies, the chain can be pruned
pub floor_is_sound : (s : BranchAndBound) → FloorShows s → HasPrunableChain s
floor_is_sound s (inl none) = λ q is_route on. absurd (none q is_route on)
floor_is_sound s (inr (x, floor, shown)) =
    let t = searched_query s in
    shown_prunable t (snapshot_is_chart s.snapshot.now) s.chain.items x (floor_is_below_every_regret t s.chain.items x floor) s.incumbent shown

pub bound_is_sound : (s : BranchAndBound) (r : Bool) → TellsByBound s r → IsTrue r → HasPrunableChain s
bound_is_sound s r told is = shown_prunable (searched_query s) (snapshot_is_chart s.snapshot.now) s.chain.items told.0 told.1 s.incumbent (told.2.0 is)
