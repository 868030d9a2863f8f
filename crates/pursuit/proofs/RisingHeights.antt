-- Heights that are found by lifting rise along every leg, if any heights do.
use Rattle.std.proofs.Common.{◌≡◌, ℕ, ◌+◌, ◌-◌, ◌<◌, ◌≤◌, ◌≢◌, true, List, [], ◌∷◌, ◌++◌, length, get_or, set, replicate, sym, refl, ap, ◌∙◌, subst, ⊎_elim, arith, length-append}
use Rattle.std.proofs.lemmas.List.{get_or-set_other, get_or-set_same}
use Rattle.std.proofs.lemmas.List.Sums.{sum_by-set}
use Rattle.chart.specs.declared.leg.Leg.{Leg}
use Rattle.chart.specs.Legs.{leg_at, IsChart}
use Rattle.chart.specs.Limits.{max_fixes}
use Rattle.chart.specs.Regret.{Query}
use Rattle.chart.specs.Routes.{IsIn, fixes_entered, fixes_of_chain}
use Rattle.chart.proofs.ShortRoutes.{no_repeats_few}
use Rattle.pursuit.specs.Rivals.{IsRivalLeg, IsPath}
use Rattle.pursuit.specs.Pursuits.{EveryLegRises, HasRisingHeights}
use Rattle.pursuit.specs.Answers.{height_at}
use Rattle.pursuit.specs.internal.Heights.{HasPathTo, AreOfPaths, AsksNoLift, heights_left, IsLiftByLeg}
use Rattle.pursuit.proofs.Paths.{path_join, path_once}
use Rattle.pursuit.proofs.ReadLegs.{all_equal}
use Rattle.pursuit.proofs.ReachedFixes.{cases_ne}

-- the height 0 is that of a path without legs
pub flat_of_paths : (t : Query) (n : ℕ) → AreOfPaths t (replicate n 0)
flat_of_paths t n v = record { start = v; by = []; path = refl; long = sym (all_equal 0 n v) }

-- a fix that is lifted leaves less to rise
left_less : (heights : List ℕ) (v h : ℕ) → height_at heights v ≤ h → h < max_fixes → v < length heights → heights_left (set heights v (h + 1)) < heights_left heights
unfolding heights_left
left_less heights v h le low there = let s = sum_by-set (λ x. max_fixes + 1 - x) heights v (h + 1) 0 there in omega arith

-- each leg of a path enters one fix
as_many_entered : (legs : List Leg) (ks : List ℕ) → length (fixes_entered legs ks) ≡ length ks
as_many_entered legs [] = refl
as_many_entered legs (k ∷ ks) = let h = as_many_entered legs ks in omega arith

module _ (t : Query) (fixes : ℕ) (is_chart : IsChart fixes t.legs) where
  -- a path to a fix of the chart meets fixes of the chart alone
  path_meets : (ks : List ℕ) (a z : ℕ) → IsPath (IsRivalLeg t) t.legs a ks z → z < fixes → (v : ℕ) → IsIn v (fixes_of_chain t.legs a ks) → v < fixes
  path_meets [] a z e small v i = ⊎_elim (λ s. omega arith) (λ j. absurd j) i
  path_meets (k ∷ ks) a z h small v i =
      ⊎_elim
      (λ s. let l = is_chart.leaves k h.0.there in let f = h.1 in omega arith)
      (λ j. path_meets ks (leg_at t.legs k).to z h.2 small v j)
      i

  -- where some heights rise along every leg, a path has fewer legs than there are fixes
  path_short : (height : ℕ → ℕ) → EveryLegRises t height → (v h : ℕ) → HasPathTo t v h → v < fixes → h < fixes
  path_short height rises v h p small =
      let few = no_repeats_few (fixes_of_chain t.legs p.start p.by) fixes (path_once (IsRivalLeg t) t.legs height rises p.by p.start v p.path) (path_meets p.by p.start v p.path small) in
      omega (arith, as_many_entered t.legs p.by, p.long)

  -- heights of paths rise along every leg where no leg asks for a lift, if any heights do
  pub found_rise : (heights : List ℕ) → AreOfPaths t heights → ((k : ℕ) → k < length t.legs → AsksNoLift t fixes heights k) → HasRisingHeights t → EveryLegRises t (height_at heights)
  found_rise heights of_paths none_asks some k leg =
      ⊎_elim
      (λ lt. lt)
      (λ high. let s = path_short some.0 some.1 (leg_at t.legs k).from _ (of_paths (leg_at t.legs k).from) (is_chart.leaves k leg.there) in absurd (omega arith))
      (none_asks k leg.there leg)

  module _ (k : ℕ) (heights : List ℕ) where
    -- each fix of the chart that a leg leads to has a height
    pub has_height : (leg : Leg) → leg ≡ leg_at t.legs k → IsRivalLeg t k → length heights ≡ max_fixes → leg.to < length heights
    has_height leg is rival room = let e = is_chart.enters k rival.there in let m = is_chart.most in omega (arith, ap (λ (l : Leg). l.to) is)

    -- the fix that a leg leads to is lifted above the one that it leaves
    pub lifted_by : (leg : Leg) → leg ≡ leg_at t.legs k → IsRivalLeg t k → length heights ≡ max_fixes → (h : ℕ) → h ≡ height_at heights leg.from → height_at heights leg.to ≤ h → h < fixes →
        IsLiftByLeg t fixes k heights (set heights leg.to (h + 1)) true
    lifted_by leg is rival room h from le low = record {
      of_paths = λ p v.
          ⊎_elim
          (λ (other : v ≢ leg.to). subst (HasPathTo t v) (sym (get_or-set_other heights leg.to v (h + 1) 0 other)) (p v))
          (λ (same : v ≡ leg.to). subst (HasPathTo t v) (sym (ap (λ y. get_or (set heights leg.to (h + 1)) y 0) same ∙ get_or-set_same heights leg.to (h + 1) 0 there)) (rw same (longer (p leg.from))))
          (cases_ne v leg.to);
      rose = λ e. left_less heights leg.to h le (omega (arith, is_chart.most)) there;
      same = λ e. cc;
      none_asks = λ e. cc;
    }
      where
        there : leg.to < length heights
        there = has_height leg is rival room

        longer : HasPathTo t leg.from (height_at heights leg.from) → HasPathTo t leg.to (h + 1)
        longer p = record {
          start = p.start;
          by = p.by ++ k ∷ [];
          path = path_join (IsRivalLeg t) t.legs p.by (k ∷ []) p.start leg.from leg.to p.path (rival, ap (λ (l : Leg). l.from) (sym is), ap (λ (l : Leg). l.to) (sym is));
          long = let l = p.long in omega (arith, length-append p.by (k ∷ []));
        }
