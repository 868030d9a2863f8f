-- What is known of a chain that was walked along: before the first leg, one leg on, and that the sum of its high times is small.
use Rattle.std.proofs.Common.{◌≡◌, ℕ, ◌+◌, ◌*◌, ◌<◌, ◌≤◌, Bool, false, true, List, [], ◌∷◌, ◌++◌, length, get_or, take, set, replicate, Some, sym, ap, ◌∙◌, subst, subst₂, arith}
use Rattle.std.proofs.lemmas.List.{take_more}
use Rattle.chart.specs.declared.leg.Leg.{Leg}
use Rattle.chart.specs.Limits.{max_fixes, max_legs, max_seconds}
use Rattle.chart.specs.Legs.{leg_at, IsChart}
use Rattle.chart.specs.Regret.{time}
use Rattle.chart.specs.Floors.{highs}
use Rattle.chart.proofs.ShortRoutes.{chain_short}
use Rattle.search.specs.declared.walked.Walked.{Walked}
use Rattle.search.specs.Walks.{AreFlagsOf, CanStep, StepAnswer, IsWalk, IsWalkedAlong}
use Rattle.search.proofs.LongerWalks.{flags_push, flags_none, walk_start, walk_push}

-- the time of two lists that are joined
pub time_join : (c : ℕ → ℕ) (ks ms : List ℕ) → time c (ks ++ ms) ≡ time c ks + time c ms
time_join c [] ms = omega arith
time_join c (k ∷ ks) ms = let h = time_join c ks ms in omega arith

-- before the first leg
pub along_start : (legs : List Leg) (s : ℕ) (w : Walked) → s < max_fixes → w.from ≡ s → w.end ≡ s → w.high ≡ 0 → w.used ≡ set (replicate max_fixes false) s true → w.flown ≡ replicate max_legs false → IsWalkedAlong legs s [] w
along_start legs s w lt from end high used flags = record {
  from = from;
  walk = subst₂ (λ z u. IsWalk legs s [] z u) (sym end) (sym used) (walk_start legs max_fixes s lt);
  flags = subst (λ m. AreFlagsOf m []) (sym flags) (flags_none max_legs);
  sums = high;
}

-- the sum of high times is small
pub highs_small : (legs : List Leg) (ks : List ℕ) → time (highs legs) ks ≤ max_seconds * length ks
highs_small legs [] = omega arith
highs_small legs (k ∷ ks) = let h = highs_small legs ks in let b = (leg_at legs k).bounded in omega arith

pub high_small : {fixes : ℕ} (legs : List Leg) → IsChart fixes legs → (s : ℕ) (ks : List ℕ) (w : Walked) → s < fixes → IsWalkedAlong legs s ks w → w.high + max_seconds ≤ max_seconds * max_fixes
high_small {fixes = fixes} legs is_chart s ks w lt along =
    let few = chain_short fixes legs is_chart ks s w.end lt along.walk.chain in
    let small = highs_small legs ks in
    omega (arith, is_chart.most, along.sums)

-- a leg that leads on is one of the chart's
pub record IsSmallLeg (leg : Leg) (k : ℕ) : Type 0 where
  pub to_small : leg.to < max_fixes
  pub number_small : k < max_legs

pub step_is_small_leg : {fixes : ℕ} (legs : List Leg) → IsChart fixes legs → (z : ℕ) (used : List Bool) (k : ℕ) (leg : Leg) → leg ≡ leg_at legs k → CanStep legs z used k → IsSmallLeg leg k
step_is_small_leg legs is_chart z used k leg e st =
    let there = st.leaves.there in
    let enters = is_chart.enters k there in
    let to : leg.to ≡ (leg_at legs k).to = ap (λ (l : Leg). l.to) e in
    record { to_small = omega (arith, is_chart.most); number_small = omega (arith, is_chart.few) }

-- one leg on
module _ {fixes : ℕ} (legs : List Leg) (is_chart : IsChart fixes legs) (s : ℕ) (list : List ℕ) (i : ℕ) (w : Walked) (along : IsWalkedAlong legs s (take i list) w) where
  pub along_again : i < length list → (leg : Leg) → StepAnswer legs w.end w.used (get_or list i 0) (Some leg) → (w' : Walked) → w'.from ≡ w.from → w'.end ≡ leg.to → w'.high ≡ w.high + leg.high → w'.used ≡ set w.used leg.to true → w'.flown ≡ set w.flown (get_or list i 0) true → IsWalkedAlong legs s (take (i + 1) list) w'
  along_again lt leg st w' from end high used flags =
      let k = get_or list i 0 in
      let m = take_more list i 0 lt in
      let known = step_is_small_leg legs is_chart w.end w.used k leg st.0 st.1 in
      let to : leg.to ≡ (leg_at legs k).to = ap (λ (l : Leg). l.to) st.0 in
      let h : leg.high ≡ (leg_at legs k).high = ap (λ (l : Leg). l.high) st.0 in
      let walk = walk_push legs s (take i list) w.end w.used along.walk k st.1 (omega (arith, known.to_small, w.used_length)) in
      record {
        from = from ∙ along.from;
        walk = subst (λ ks. IsWalk legs s ks w'.end w'.used) (sym m)
            (subst₂ (λ z u. IsWalk legs s (take i list ++ k ∷ []) z u) (sym (end ∙ to)) (sym (used ∙ ap (λ x. set w.used x true) to)) walk);
        flags = subst₂ (λ u ks. AreFlagsOf u ks) (sym flags) (sym m) (flags_push w.flown (take i list) k (omega (arith, known.number_small, w.flown_length)) along.flags);
        sums =
            let p = time_join (highs legs) (take i list) (k ∷ []) in
            let q : w'.high ≡ time (highs legs) (take i list ++ k ∷ []) = omega (arith, along.sums) in
            q ∙ ap (time (highs legs)) (sym m);
      }
