-- Which legs a chain shuts, by flags, and the least time of any route where they are shut.
use Rattle.std.proofs.lemmas.Grind.{common_steps}
use Rattle.std.proofs.Common.{◌≡◌, ℕ, ◌+◌, ◌<◌, Bool, true, false, not, List, length, get_or, set, Some, None, MatchBool, Option, sym, refl, ap, ◌∙◌, inl, inr, ⊎_elim, arith}
use Rattle.std.proofs.lemmas.Bool.{cases_eq}
use Rattle.chart.specs.declared.leg.Leg.{Leg}
use Rattle.chart.specs.Legs.{leg_at}
use Rattle.chart.specs.Routes.{IsIn}
use Rattle.chart.specs.Kinds.{seconds_rule}
use Rattle.chart.specs.Best.{BestTotal}
use Rattle.chart.specs.Regret.{query}
use Rattle.chart.specs.Floors.{IsShut, IsFloorChoice}
use Rattle.search.specs.declared.walked.Walked.{Walked}
use Rattle.search.specs.Walks.{IsWalk, IsWalkedAlong}
use Rattle.regret.specs.FlaggedTimes.{time_by, flagged_times, flagged_choice}
use Rattle.chart.proofs.Chains.{left_not_end}
use Rattle.search.proofs.LongerWalks.{true_false}
use Rattle.regret.proofs.WorstChoice.{in_fixes_entered}
use Rattle.regret.proofs.RegretFromBest.{best_is_least}
use Rattle.floor.specs.internal.FloorChoice.{IsUsedBeside, AreUnshut, FloorChoiceTime}
use Rattle.floor.proofs.FixesOfChains.{entered_by, left_by, left_in_chain}

-- a leg outside the chain, by the flags of the fixes that it joins
module _ (legs : List Leg) (s : ℕ) (ks : List ℕ) (w : Walked) (along : IsWalkedAlong legs s ks w) (k : ℕ) (leg : Leg) (is : leg ≡ leg_at legs k) (unflagged : get_or w.flown k false ≡ false) where
  walk : IsWalk legs s ks w.end w.used
  walk = along.walk

  outside : IsIn k ks → ⊥
  outside i = true_false _ (along.flags.on k i) unflagged

  -- it is shut where a leg of the chain leaves the fix that it leaves
  pub shut_by_left : (u v : ℕ) → u ≡ w.end → v ≡ leg.from → IsUsedBeside w.used u v true → IsShut legs ks k
  shut_by_left u v end from left =
      let h = left_by legs ks s w.end v walk.chain.leads (walk.flags.back v left.1) (λ e. left.0 (e ∙ sym end)) in
      record { outside = outside; shutting = h.0; inside = h.1; shares = inl (ap (λ (l : Leg). l.from) (sym is) ∙ sym from ∙ h.2) }

  -- where no leg of the chain leaves the fix that the leg leaves, it is shut by the fix that it enters
  module _ (u v : ℕ) (end : u ≡ w.end) (from : v ≡ leg.from) (free : IsUsedBeside w.used u v false) (x y : ℕ) (start : x ≡ s) (to : y ≡ leg.to) where
    leaves_alone : (m : ℕ) → IsIn m ks → (leg_at legs k).from ≡ (leg_at legs m).from → ⊥
    leaves_alone m i e = grind (arith, left_not_end legs ks s w.end walk.chain.leads walk.chain.once m i, walk.flags.on v, left_in_chain legs ks s w.end walk.chain.leads m i)

    enters_alone : (m : ℕ) → IsIn m ks → IsUsedBeside w.used x y false → (leg_at legs k).to ≡ (leg_at legs m).to → ⊥
    enters_alone m i unused e = grind (arith, walk.chain.once.0, walk.flags.on y, in_fixes_entered legs ks m i)

    pub shut_by_entered : (b : Bool) → IsUsedBeside w.used x y b → MatchBool b (IsShut legs ks k) (IsShut legs ks k → ⊥)
    shut_by_entered true entering =
        let h = entered_by legs ks y (⊎_elim (λ e. absurd (entering.0 (e ∙ sym start))) (λ i. i) (walk.flags.back y entering.1)) in
        record { outside = outside; shutting = h.0; inside = h.1; shares = inr (ap (λ (l : Leg). l.to) (sym is) ∙ sym to ∙ h.2) }
    shut_by_entered false unused = λ shut. ⊎_elim (leaves_alone shut.shutting shut.inside) (enters_alone shut.shutting shut.inside unused) shut.shares

-- what holds where r is set, with r negated
negated : (A : Type 0) (r : Bool) → MatchBool r A (A → ⊥) → MatchBool (not r) (A → ⊥) A
negated A true h = h
negated A false h = h

-- the flags of the legs below j + 1 from those below j
pub unshut_again : (legs : List Leg) (ks : List ℕ) (flags : List Bool) (j : ℕ) (r : Bool) → j < length flags → AreUnshut legs ks flags j → MatchBool r (IsShut legs ks j) (IsShut legs ks j → ⊥) → AreUnshut legs ks (set flags j (not r)) (j + 1)
unshut_again legs ks flags j r lt old new k below = grind (arith, common_steps, old k, negated (IsShut legs ks j) r new, cases_eq k j)

-- where just the legs that are not shut are flagged, the flags give the floor choice
unshut_floor_choice : (legs : List Leg) (ks : List ℕ) (flags : List Bool) → AreUnshut legs ks flags (length legs) → IsFloorChoice legs ks (flagged_choice legs flags)
unshut_floor_choice legs ks flags unshut = record {
  on = λ k lt shut. low_of k (get_or flags k false) (unshut k lt) shut;
  off = λ k lt n. high_of k (get_or flags k false) (unshut k lt) n;
}
  where
    low_of : (k : ℕ) (b : Bool) → MatchBool b (IsShut legs ks k → ⊥) (IsShut legs ks k) → IsShut legs ks k → time_by b (leg_at legs k) ≡ (leg_at legs k).low
    low_of k true n shut = absurd (n shut)
    low_of k false w shut = refl

    high_of : (k : ℕ) (b : Bool) → MatchBool b (IsShut legs ks k → ⊥) (IsShut legs ks k) → (IsShut legs ks k → ⊥) → time_by b (leg_at legs k) ≡ (leg_at legs k).high
    high_of k true w n = refl
    high_of k false shut n = absurd (n shut)

-- the best total where just the legs that are not shut take their high time
pub best_is_floor_choice_time : (legs : List Leg) (s t : ℕ) (ks : List ℕ) (flags : List Bool) → AreUnshut legs ks flags (length legs) → (r : Option ℕ) → BestTotal (seconds_rule (flagged_times flags)) legs s t r → FloorChoiceTime (query legs s t) ks r
best_is_floor_choice_time legs s t ks flags unshut None best = best
best_is_floor_choice_time legs s t ks flags unshut (Some b) best = record {
  choice = flagged_choice legs flags;
  floor_choice = unshut_floor_choice legs ks flags unshut;
  least = best_is_least legs s t flags b best;
}
