-- The regret of a route from the best total in its worst choice.
use Rattle.std.proofs.Common.{◌≡◌, ℕ, ◌+◌, ◌<◌, ◌≤◌, Bool, true, false, List, [], ◌∷◌, Some, None, MatchOption, Option, eqb, Ok, Err, refl, sym, ap, ◌∙◌, subst, arith}
use Rattle.std.specs.Bool.{then_some}
use Rattle.std.proofs.lemmas.Bool.{false_from_ne_true, eqb-true, eqb-false}
use Rattle.chart.specs.declared.leg.Leg.{Leg}
use Rattle.chart.specs.Legs.{leg_at}
use Rattle.chart.specs.Routes.{IsChain, IsRouteBetween}
use Rattle.chart.specs.Kinds.{seconds_rule}
use Rattle.chart.specs.Best.{total_from, IsBest}
use Rattle.chart.specs.Regret.{Query, query, IsRoute, time, IsLeastTime, IsWorstChoice}
use Rattle.chart.specs.Floors.{highs}
use Rattle.chart.proofs.Chains.{leads_end}
use Rattle.chart.proofs.RouteEnds.{route_goes_away}
use Rattle.search.specs.declared.walked.Walked.{Walked}
use Rattle.search.specs.Walks.{AreFlagsOf, IsWalkedAlong, WalkAnswer}
use Rattle.regret.specs.FlaggedTimes.{time_by, flagged_times, flagged_choice}
use Rattle.regret.specs.declared.refusals.RegretRefusal.{RegretRefusal}
use Rattle.regret.specs.declared.refusals.RegretRefusal.TheVariants.{NotARoute}
use Rattle.regret.specs.Answers.{regret_outcome, IsRegretOutcome}
use Rattle.regret.proofs.WorstChoice.{worst_choice_gives_regret, time_same}

pub total_is_time : (legs : List Leg) (flags : List Bool) (ks : List ℕ) (x : ℕ) → total_from (seconds_rule (flagged_times flags)) legs x ks ≡ x + time (flagged_choice legs flags) ks
total_is_time legs flags [] x = omega arith
total_is_time legs flags (k ∷ ks) x = let h = total_is_time legs flags ks (x + flagged_choice legs flags k) in omega arith

-- the best total in a choice is the least time of any route
pub best_is_least : (legs : List Leg) (s t : ℕ) (flags : List Bool) (b : ℕ) → IsBest (seconds_rule (flagged_times flags)) legs s t b → IsLeastTime (query legs s t) (flagged_choice legs flags) b
best_is_least legs s t flags b best = record {
  by = best.some.0;
  is_route = best.some.1;
  takes = let e = total_is_time legs flags best.some.0 0 in let f = best.some.2 in omega arith;
  least = λ r g. let h = best.every r g in let e = total_is_time legs flags r 0 in omega arith;
}

pub flags_worst : (legs : List Leg) (flags : List Bool) (p : List ℕ) → AreFlagsOf flags p → IsWorstChoice legs p (flagged_choice legs flags)
flags_worst legs flags p f = record {
  on = λ k i. ap (λ b. time_by b (leg_at legs k)) (f.on k i);
  off = λ k n. ap (λ b. time_by b (leg_at legs k)) (false_from_ne_true _ (λ e. n (f.back k e)));
}

-- a chain to the destination is a route, where any route leads there
pub chain_is_route : (legs : List Leg) (s t z : ℕ) (ks : List ℕ) → IsChain legs s ks z → z ≡ t → (q : List ℕ) → IsRouteBetween legs s t q → IsRouteBetween legs s t ks
chain_is_route legs s t z [] c e q r = absurd (route_goes_away legs s q (subst (λ v. IsRouteBetween legs s v q) (sym (c.leads ∙ e)) r))
chain_is_route legs s t z (k ∷ ks) c e q r = record { chain = subst (λ v. IsChain legs s (k ∷ ks) v) e c; some = omega arith }

-- the regret of a list that was walked along to the destination, from the best total in its worst choice
pub regret_from_best : (legs : List Leg) (s t : ℕ) (ks : List ℕ) (w : Walked) → IsWalkedAlong legs s ks w → w.end ≡ t → (b : ℕ) → IsBest (seconds_rule (flagged_times w.flown)) legs s t b → (b ≤ w.high) × ((x : ℕ) → w.high ≡ b + x → IsRegretOutcome (query legs s t) ks (regret_outcome (Ok x)))
regret_from_best legs s t ks w along e b best =
    let worst = flags_worst legs w.flown ks along.flags in
    let takes = time_same (flagged_choice legs w.flown) (highs legs) ks (λ k i. worst.on k i) in
    let route = chain_is_route legs s t w.end ks along.walk.chain e best.some.0 best.some.1 in
    let least = best_is_least legs s t w.flown b best in
    let below : b ≤ w.high = omega (arith, along.sums, least.least ks route) in
    (below, λ x difference. (route, worst_choice_gives_regret (query legs s t) ks (flagged_choice legs w.flown) b x route worst least (omega (arith, along.sums, difference))))

-- what is known of a list where its walk is kept only if it ends at t
abbrev pub WalkedTo : ℕ → List Leg → ℕ → ℕ → List ℕ → Option Walked → Type 0
WalkedTo fixes legs s t ks None = s < fixes → IsChain legs s ks t → ⊥
WalkedTo fixes legs s t ks (Some w) = IsWalkedAlong legs s ks w × (w.end ≡ t)

pub walked_to : (fixes : ℕ) (legs : List Leg) (s t : ℕ) (ks : List ℕ) (o r : Option Walked) (P : Walked → Bool → Type 0) → WalkAnswer fixes legs s ks o → MatchOption o (r ≡ None) (λ w. (b : Bool) × P w b × (r ≡ then_some b w)) → ((w : Walked) (b : Bool) → P w b → b ≡ eqb w.end t) → WalkedTo fixes legs s t ks r
walked_to fixes legs s t ks None r P walked m test = rw m (λ lt. walked lt t)
walked_to fixes legs s t ks (Some w) r P walked m test = rw m.2 (by_test m.0 (test w m.0 m.1))
  where
    by_test : (b : Bool) → b ≡ eqb w.end t → WalkedTo fixes legs s t ks (then_some b w)
    by_test true e = (walked.1, eqb-true w.end t (sym e))
    by_test false e = λ lt c. eqb-false w.end t (sym e) (leads_end legs ks s w.end t walked.1.walk.chain.leads c.leads)

-- the one refusal says that the list is no route
pub not_a_route : (t : Query) (ks : List ℕ) (e : RegretRefusal) → (IsRoute t ks → ⊥) → IsRegretOutcome t ks (regret_outcome (Err e))
not_a_route t ks NotARoute n = (refl, n)
