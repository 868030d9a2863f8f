-- The whole search, and what of it is written.
use Rattle.std.proofs.Common.{◌≡◌, ℕ, ◌+◌, ◌<◌, ◌≤◌, true, false, List, [], length, set, replicate, Some, None, Option, sym, refl, ap, ◌∙◌, subst, subst₂, ⊎_elim, arith, length-set}
use Rattle.std.proofs.lemmas.List.{length-replicate}
use Rattle.chart.specs.Limits.{max_fixes, max_legs}
use Rattle.chart.specs.Legs.{IsChart}
use Rattle.chart.specs.Regret.{Query, time, IsLeastRegret}
use Rattle.chart.specs.Floors.{IsPrefix, highs}
use Rattle.chart.proofs.ShortRoutes.{routes_short}
use Rattle.search.specs.Snapshots.{snapshot_fixes, snapshot_legs}
use Rattle.search.specs.laws.SnapshotLaws.{snapshot_is_chart}
use Rattle.search.specs.Walks.{AreFlagsOf, IsWalk}
use Rattle.search.proofs.LongerWalks.{flags_none, walk_start}
use Rattle.least.specs.declared.branch_and_bound.Incumbent.{Incumbent}
use Rattle.least.specs.declared.branch_and_bound.BranchAndBound.{BranchAndBound}
use Rattle.least.specs.internal.BranchAndBound.{searched_query, IsValidIncumbent, IsSearched, HasValidPursuit, IsReady, IsOptimal}

pub ready_first : (s : BranchAndBound) → s.ends.from < snapshot_fixes s.snapshot.now → s.chain.items ≡ [] → s.used ≡ set (replicate max_fixes false) s.ends.from true → s.flags ≡ replicate max_legs false → s.high ≡ 0 → s.incumbent ≡ None → HasValidPursuit s → IsReady s s.ends.from
ready_first s leaves none unset unflagged zero nothing pursued = record {
  places = ap length unflagged ∙ length-replicate max_legs false;
  flagged = subst₂ (λ m l. AreFlagsOf m l) (sym unflagged) (sym none) (flags_none max_legs);
  sums = zero ∙ ap (time (highs (snapshot_legs s.snapshot.now))) (sym none);
  pursued = pursued;
  leaves = leaves;
  useds = ap length unset ∙ length-set (replicate max_fixes false) s.ends.from true ∙ length-replicate max_fixes false;
  walk = subst₂ (λ l u. IsWalk (snapshot_legs s.snapshot.now) s.ends.from l s.ends.from u) (sym none) (sym unset)
      (walk_start (snapshot_legs s.snapshot.now) max_fixes s.ends.from (let most = (snapshot_is_chart s.snapshot.now).most in omega arith));
  is_valid = subst (λ b. IsValidIncumbent (searched_query s) b) (sym nothing) tt;
}

pub least_of : (t : Query) (incumbent : Option Incumbent) → IsSearched t None incumbent (IsPrefix []) → IsOptimal t incumbent
least_of t None s = λ q is_route. s.all q is_route (q, refl)
least_of t (Some b) s = record {
  is_route = s.is_valid.is_route;
  regret = s.is_valid.regret;
  first = λ q y is_route ne r. ⊎_elim (λ e. absurd (ne (sym e))) (λ b. b) (s.all q is_route (q, refl) y r);
}

-- the incumbent on a chart's legs fits where there is a place for all fixes but one
pub incumbent_fits : {fixes : ℕ} (t : Query) → IsChart fixes t.legs → (b : Incumbent) → IsLeastRegret t b.list.items b.regret → (memory : List ℕ) → fixes ≤ length memory + 1 → length b.list.items ≤ length memory
incumbent_fits {fixes = fixes} t is_chart b least memory room =
    let short = routes_short fixes t.legs is_chart t.source t.destination b.list.items least.is_route in
    omega arith
