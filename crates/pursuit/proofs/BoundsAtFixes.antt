-- The bound of a chain by a rival who has reached a fix.
use Rattle.std.proofs.Common.{◌≡◌, ℕ, ◌<◌, ◌≤◌, max, List, Option, ⊎_elim, arith}
use Rattle.std.proofs.lemmas.Bool.{cases_lt}
use Rattle.chart.specs.Regret.{Query}
use Rattle.regret.proofs.RegretFromBest.{flags_worst}
use Rattle.pursuit.specs.declared.bounds.ChainState.{ChainState}
use Rattle.pursuit.specs.declared.pursuit.Pursuit.{Pursuit}
use Rattle.pursuit.specs.Pursuits.{IsPursuitBound}
use Rattle.regret.specs.FlaggedTimes.{flagged_choice as own_high}
use Rattle.pursuit.specs.Answers.{height_at, IsPursuit, IsStateOf, IsBelowChainRegrets}
use Rattle.pursuit.specs.internal.Margins.{AreReached, IsBoundAt}
use Rattle.pursuit.proofs.BelowRegret.{pursuit_bound_is_below_every_regret}

-- 0 is below every regret
pub none_below : (t : Query) (c : ChainState) → IsBelowChainRegrets t c 0
none_below t c ks state p is_route prefix y regret = omega arith

module _ (t : Query) (p : Pursuit) (is : IsPursuit t p) (c : ChainState) (times : List (Option ℕ)) (reached : AreReached t (height_at p.heights) (own_high t.legs c.flags.now) (height_at p.heights c.end) times) where
  bound_at_fix : (ks : List ℕ) → IsStateOf t.legs t.source ks c → (b x : ℕ) → IsBoundAt p c times b x → IsPursuitBound t ks x
  bound_at_fix ks state b x is_bound = record {
    height = height_at p.heights;
    offset = _;
    margin = _;
    table = is;
    v = c.end;
    leads = state.leads;
    w = own_high t.legs c.flags.now;
    worst = flags_worst t.legs c.flags.now ks state.flagged;
    b = b;
    d = is_bound.time;
    reaches = reached b is_bound.time is_bound.reached;
    onward = is_bound.onward;
    has_margin = is_bound.has_margin;
    within = let o = is_bound.within in let s = state.sums in omega arith;
  }

  pub below_by_bound_at_fix : (b x : ℕ) → (1 ≤ x → IsBoundAt p c times b x) → IsBelowChainRegrets t c x
  below_by_bound_at_fix b x is_bound ks state q is_route prefix y regret =
      ⊎_elim
      (λ (one : 0 < x). pursuit_bound_is_below_every_regret t ks x (bound_at_fix ks state b x (is_bound (omega arith))) q is_route prefix y regret)
      (λ (none : x ≤ 0). omega arith)
      (cases_lt 0 x)

-- the larger of two bounds is a bound
pub larger_below : (t : Query) (c : ChainState) (x y z : ℕ) → z ≡ max x y → IsBelowChainRegrets t c x → IsBelowChainRegrets t c y → IsBelowChainRegrets t c z
larger_below t c x y z m a b ks state p is_route prefix r regret =
    let u = a ks state p is_route prefix r regret in
    let v = b ks state p is_route prefix r regret in
    omega arith
