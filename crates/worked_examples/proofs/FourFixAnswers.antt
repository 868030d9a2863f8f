-- The answers on the four-fix chart, each checked on its three lists of legs.
use Rattle.std.proofs.Common.{◌≡◌, ℕ, ◌+◌, ◌<◌, ◌≤◌, min, List, [], ◌∷◌, sym, refl, ap, ◌∙◌, subst, inl, inr, ⊎_elim, arith}
use Rattle.chart.specs.declared.row.Row.{Row}
use Rattle.chart.specs.declared.row.Standing.{Standing}
use Rattle.chart.specs.declared.row.Standing.TheVariants.{Open, Closed}
use Rattle.chart.specs.declared.leg.Leg.{Leg}
use Rattle.chart.specs.Legs.{leg_at}
use Rattle.chart.specs.Rows.{row_at}
use Rattle.chart.specs.Routes.{IsIn, IsRouteBetween}
use Rattle.chart.specs.Kinds.{Rule, level_rule, quickest_rule}
use Rattle.chart.specs.Best.{total, IsBest}
use Rattle.chart.specs.Regret.{Query, query, IsRoute, time, IsLeastTime, HasRegret, IsPreferred, IsLeastRegret}
use Rattle.chart.specs.Floors.{IsPrefix, highs, IsLeastExtension, IsFloor}
use Rattle.chart.specs.Grid.{grid_leg}
use Rattle.chart.specs.laws.Lattices.{length_grid, grid_at}
use Rattle.regret.proofs.WorstChoice.{worst_choice_gives_regret, regret_is_unique}
use Rattle.worked_examples.specs.FourFix.{closed, from_first_to_last, four_fix_rows, FourFixWorked, FourFixClosed, SmallLatticeWorked}
use Rattle.worked_examples.proofs.ComputedChoices.{worst, worst_is_worst, floor_choice, floor_choice_is_one}
use Rattle.worked_examples.proofs.FourFixLegs.{rows_with, legs_with, closed_open, leg_is, five_legs, joined, by_one, by_two, by_one_and_two, second_open, of_every_route}

-- the times and levels of the legs, whatever their standings
pub record FourFixNumbers (legs : List Leg) : Type 0 where
  pub high0 : (leg_at legs 0).high ≡ 400
  pub high1 : (leg_at legs 1).high ≡ 500
  pub high2 : (leg_at legs 2).high ≡ 600
  pub high3 : (leg_at legs 3).high ≡ 450
  pub high4 : (leg_at legs 4).high ≡ 100
  pub low0 : (leg_at legs 0).low ≡ 300
  pub low1 : (leg_at legs 1).low ≡ 300
  pub low2 : (leg_at legs 2).low ≡ 200
  pub low3 : (leg_at legs 3).low ≡ 250
  pub low4 : (leg_at legs 4).low ≡ 50
  pub top0 : (leg_at legs 0).top ≡ 390
  pub top1 : (leg_at legs 1).top ≡ 350
  pub top2 : (leg_at legs 2).top ≡ 410
  pub top3 : (leg_at legs 3).top ≡ 370
  pub top4 : (leg_at legs 4).top ≡ 330

module _ (a b c d e : Standing) where
  high : (k : ℕ) → k < 5 → (leg_at (legs_with a b c d e) k).high ≡ (row_at (rows_with a b c d e) k).high
  high k h = ap (λ (r : Row). r.high) (leg_is a b c d e k h)

  low : (k : ℕ) → k < 5 → (leg_at (legs_with a b c d e) k).low ≡ (row_at (rows_with a b c d e) k).low
  low k h = ap (λ (r : Row). r.low) (leg_is a b c d e k h)

  top : (k : ℕ) → k < 5 → (leg_at (legs_with a b c d e) k).top ≡ (row_at (rows_with a b c d e) k).top
  top k h = ap (λ (r : Row). r.top) (leg_is a b c d e k h)

  four_fix_numbers : FourFixNumbers (legs_with a b c d e)
  four_fix_numbers = record {
    high0 = high 0 (omega arith);
    high1 = high 1 (omega arith);
    high2 = high 2 (omega arith);
    high3 = high 3 (omega arith);
    high4 = high 4 (omega arith);
    low0 = low 0 (omega arith);
    low1 = low 1 (omega arith);
    low2 = low 2 (omega arith);
    low3 = low 3 (omega arith);
    low4 = low 4 (omega arith);
    top0 = top 0 (omega arith);
    top1 = top 1 (omega arith);
    top2 = top 2 (omega arith);
    top3 = top 3 (omega arith);
    top4 = top 4 (omega arith);
  }

abbrev open_legs : List Leg
open_legs = legs_with Open Open Open Open Open

abbrev four_fix_query : Query
four_fix_query = query open_legs 0 3

one : IsRoute four_fix_query (0 ∷ 1 ∷ [])
one = by_one Open Open Open Open Open refl refl

both : IsRoute four_fix_query (0 ∷ 4 ∷ 3 ∷ [])
both = by_one_and_two Open Open Open Open Open refl refl refl

two : IsRoute four_fix_query (2 ∷ 3 ∷ [])
two = by_two Open Open Open Open Open refl refl

every : (P : List ℕ → Type 0) → P (0 ∷ 1 ∷ []) → P (0 ∷ 4 ∷ 3 ∷ []) → P (2 ∷ 3 ∷ []) → (q : List ℕ) → IsRoute four_fix_query q → P q
every P p q r = of_every_route Open Open Open Open Open P (λ _. p) (λ _. q) (λ _. r)

-- the best of the three totals
best : {T : Type 0} (rule : Rule T) (x : T) (ks : List ℕ) → IsRoute four_fix_query ks → total rule open_legs ks ≡ x →
    rule.order x (total rule open_legs (0 ∷ 1 ∷ [])) → rule.order x (total rule open_legs (0 ∷ 4 ∷ 3 ∷ [])) → rule.order x (total rule open_legs (2 ∷ 3 ∷ [])) →
    IsBest rule open_legs 0 3 x
best rule x ks route sum p q r = record { some = (ks, route, sum); every = every (λ l. rule.order x (total rule open_legs l)) p q r }

-- the least of the three times in a choice
least : (v : ℕ → ℕ) (x : ℕ) (ks : List ℕ) → IsRoute four_fix_query ks → time v ks ≡ x → x ≤ time v (0 ∷ 1 ∷ []) → x ≤ time v (0 ∷ 4 ∷ 3 ∷ []) → x ≤ time v (2 ∷ 3 ∷ []) → IsLeastTime four_fix_query v x
least v x ks route sum p q r = record { by = ks; is_route = route; takes = sum; least = every (λ l. x ≤ time v l) p q r }

regret_one : HasRegret four_fix_query (0 ∷ 1 ∷ []) 450
regret_one =
    let n = four_fix_numbers Open Open Open Open Open in
    let w = worst open_legs (0 ∷ 1 ∷ []) in
    worst_choice_gives_regret four_fix_query (0 ∷ 1 ∷ []) w 450 450 one (worst_is_worst open_legs (0 ∷ 1 ∷ []))
    (least w 450 (2 ∷ 3 ∷ []) two (omega arith) (omega arith) (omega arith) (omega arith))
    (omega arith)

regret_both : HasRegret four_fix_query (0 ∷ 4 ∷ 3 ∷ []) 300
regret_both =
    let n = four_fix_numbers Open Open Open Open Open in
    let w = worst open_legs (0 ∷ 4 ∷ 3 ∷ []) in
    worst_choice_gives_regret four_fix_query (0 ∷ 4 ∷ 3 ∷ []) w 650 300 both (worst_is_worst open_legs (0 ∷ 4 ∷ 3 ∷ []))
    (least w 650 (2 ∷ 3 ∷ []) two (omega arith) (omega arith) (omega arith) (omega arith))
    (omega arith)

regret_two : HasRegret four_fix_query (2 ∷ 3 ∷ []) 450
regret_two =
    let n = four_fix_numbers Open Open Open Open Open in
    let w = worst open_legs (2 ∷ 3 ∷ []) in
    worst_choice_gives_regret four_fix_query (2 ∷ 3 ∷ []) w 600 450 two (worst_is_worst open_legs (2 ∷ 3 ∷ []))
    (least w 600 (0 ∷ 1 ∷ []) one (omega arith) (omega arith) (omega arith) (omega arith))
    (omega arith)

-- a route of regret x is beaten by what beats x
beaten : (t : Query) (p : List ℕ) (x : ℕ) (q : List ℕ) (y : ℕ) → HasRegret t q y → IsPreferred x p y q → (z : ℕ) → HasRegret t q z → IsPreferred x p z q
beaten t p x q y r b z s = subst (λ v. IsPreferred x p v q) (regret_is_unique t q y z r s) b

route : IsLeastRegret four_fix_query (0 ∷ 4 ∷ 3 ∷ []) 300
route = record {
  is_route = both;
  regret = regret_both;
  first = λ q y f ne r.
      every (λ l. (l ≡ 0 ∷ 4 ∷ 3 ∷ [] → ⊥) → (z : ℕ) → HasRegret four_fix_query l z → IsPreferred 300 (0 ∷ 4 ∷ 3 ∷ []) z l)
      (λ _. beaten four_fix_query (0 ∷ 4 ∷ 3 ∷ []) 300 (0 ∷ 1 ∷ []) 450 regret_one (inl (omega arith)))
      (λ n. absurd (n refl))
      (λ _. beaten four_fix_query (0 ∷ 4 ∷ 3 ∷ []) 300 (2 ∷ 3 ∷ []) 450 regret_two (inl (omega arith)))
      q f ne y r;
}

-- which fixes the legs join, as numbers that compute
abbrev from_of : ℕ → ℕ
from_of k = (row_at (rows_with Open Open Open Open Open) k).from

abbrev to_of : ℕ → ℕ
to_of k = (row_at (rows_with Open Open Open Open Open) k).to

-- a floor from its two totals
floor_by : (ks : List ℕ) → ((k : ℕ) → IsIn k ks → k < 5) → (n b x : ℕ) →
    IsLeastExtension four_fix_query ks n → IsLeastTime four_fix_query (floor_choice from_of to_of open_legs ks) b → n ≡ b + x → IsFloor four_fix_query ks x
floor_by ks there n b x extension least difference =
    let five = five_legs Open Open Open Open Open in
    let j = joined Open Open Open Open Open in
    record {
      a = n;
      b = b;
      v = floor_choice from_of to_of open_legs ks;
      extension = extension;
      floor_choice =
          floor_choice_is_one from_of to_of open_legs
          (λ k h. j.leaves k (omega arith))
          (λ k h. j.enters k (omega arith))
          ks (λ k i. let s = there k i in omega arith);
      least = least;
      difference = difference;
    }

-- a list that does not begin with the leg k
other_first : (k m : ℕ) (ks js : List ℕ) → (m ≡ k → ⊥) → IsPrefix (k ∷ ks) (m ∷ js) → ⊥
other_first k m ks js n g = let e = g.1 in n (cc)

least_extension_of : (ks : List ℕ) (n : ℕ) (by : List ℕ) → IsRoute four_fix_query by → IsPrefix ks by → time (highs open_legs) by ≡ n →
    (IsPrefix ks (0 ∷ 1 ∷ []) → n ≤ time (highs open_legs) (0 ∷ 1 ∷ [])) →
    (IsPrefix ks (0 ∷ 4 ∷ 3 ∷ []) → n ≤ time (highs open_legs) (0 ∷ 4 ∷ 3 ∷ [])) →
    (IsPrefix ks (2 ∷ 3 ∷ []) → n ≤ time (highs open_legs) (2 ∷ 3 ∷ [])) →
    IsLeastExtension four_fix_query ks n
least_extension_of ks n by f g takes p q r = record {
  by = by;
  is_route = f;
  extends = g;
  takes = takes;
  least = every (λ l. IsPrefix ks l → n ≤ time (highs open_legs) l) p q r;
}

floor_none : IsFloor four_fix_query [] 0
floor_none =
    let n = four_fix_numbers Open Open Open Open Open in
    floor_by [] (λ k i. absurd i) 900 900 0
    (least_extension_of [] 900 (0 ∷ 1 ∷ []) one (0 ∷ 1 ∷ [], refl) (omega arith) (λ _. omega arith) (λ _. omega arith) (λ _. omega arith))
    (least (floor_choice from_of to_of open_legs []) 900 (0 ∷ 1 ∷ []) one (omega arith) (omega arith) (omega arith) (omega arith))
    refl

floor_0 : IsFloor four_fix_query (0 ∷ []) 250
floor_0 =
    let n = four_fix_numbers Open Open Open Open Open in
    floor_by (0 ∷ []) (λ k i. ⊎_elim (λ f. omega arith) (λ z. absurd z) i) 900 650 250
    (least_extension_of (0 ∷ []) 900 (0 ∷ 1 ∷ []) one (1 ∷ [], refl) (omega arith) (λ _. omega arith) (λ _. omega arith) (λ g. absurd (other_first 0 2 [] (3 ∷ []) (λ f. omega arith) g)))
    (least (floor_choice from_of to_of open_legs (0 ∷ [])) 650 (2 ∷ 3 ∷ []) two (omega arith) (omega arith) (omega arith) (omega arith))
    refl

floor_2 : IsFloor four_fix_query (2 ∷ []) 250
floor_2 =
    let n = four_fix_numbers Open Open Open Open Open in
    floor_by (2 ∷ []) (λ k i. ⊎_elim (λ f. omega arith) (λ z. absurd z) i) 1050 800 250
    (least_extension_of (2 ∷ []) 1050 (2 ∷ 3 ∷ []) two (3 ∷ [], refl) (omega arith) (λ g. absurd (other_first 2 0 [] (1 ∷ []) (λ f. omega arith) g)) (λ g. absurd (other_first 2 0 [] (4 ∷ 3 ∷ []) (λ f. omega arith) g)) (λ _. omega arith))
    (least (floor_choice from_of to_of open_legs (2 ∷ [])) 800 (0 ∷ 1 ∷ []) one (omega arith) (omega arith) (omega arith) (omega arith))
    refl

floor_2_3 : IsFloor four_fix_query (2 ∷ 3 ∷ []) 450
floor_2_3 =
    let n = four_fix_numbers Open Open Open Open Open in
    floor_by (2 ∷ 3 ∷ []) (λ k i. ⊎_elim (λ f. omega arith) (λ z. ⊎_elim (λ f. omega arith) (λ y. absurd y) z) i) 1050 600 450
    (least_extension_of (2 ∷ 3 ∷ []) 1050 (2 ∷ 3 ∷ []) two ([], refl) (omega arith) (λ g. absurd (other_first 2 0 (3 ∷ []) (1 ∷ []) (λ f. omega arith) g)) (λ g. absurd (other_first 2 0 (3 ∷ []) (4 ∷ 3 ∷ []) (λ f. omega arith) g)) (λ _. omega arith))
    (least (floor_choice from_of to_of open_legs (2 ∷ 3 ∷ [])) 600 (0 ∷ 1 ∷ []) one (omega arith) (omega arith) (omega arith) (omega arith))
    refl

pub four_fix_worked : FourFixWorked four_fix_rows
unfolding legs_with
four_fix_worked =
    let n = four_fix_numbers Open Open Open Open Open in
    let sum : 0 + (leg_at open_legs 0).high + (leg_at open_legs 1).high ≡ 900 = omega arith in
    let lowest : min (min 600 (leg_at open_legs 2).top) (leg_at open_legs 3).top ≡ 370 = omega arith in
    record {
      quickest =
          best quickest_rule (record { seconds = 900; legs = 2 }) (0 ∷ 1 ∷ []) one
          (ap (λ s. record { seconds = s; legs = 2 }) sum)
          (inr (omega arith, omega arith))
          (inl (omega arith))
          (inl (omega arith));
      level = best level_rule 370 (2 ∷ 3 ∷ []) two lowest (omega arith) (omega arith) (omega arith);
      regret_by_one = regret_one;
      regret_by_one_and_two = regret_both;
      regret_by_two = regret_two;
      route = route;
      floor_of_none = floor_none;
      floor_of_leg_0 = floor_0;
      floor_of_leg_2 = floor_2;
      floor_of_legs_2_and_3 = floor_2_3;
    }

-- with leg 4 closed
abbrev less_4 : Query
less_4 = query (legs_with Open Open Open Open Closed) 0 3

every_less_4 : (P : List ℕ → Type 0) → P (0 ∷ 1 ∷ []) → P (2 ∷ 3 ∷ []) → (q : List ℕ) → IsRoute less_4 q → P q
every_less_4 P p r =
    of_every_route Open Open Open Open Closed P (λ _. p)
    (λ f. absurd (closed_open Closed refl (second_open Open Open Open Open Closed 0 4 (3 ∷ []) (omega arith) f)))
    (λ _. r)

regret_less_4 : (p : List ℕ) → IsRoute less_4 p → (x y : ℕ) (q : List ℕ) → IsRoute less_4 q → time (worst less_4.legs p) q ≡ x → x ≤ time (worst less_4.legs p) (0 ∷ 1 ∷ []) → x ≤ time (worst less_4.legs p) (2 ∷ 3 ∷ []) → time (worst less_4.legs p) p ≡ x + y → HasRegret less_4 p y
regret_less_4 p f x y q g takes one' two' difference =
    worst_choice_gives_regret less_4 p (worst less_4.legs p) x y f (worst_is_worst less_4.legs p)
    (record { by = q; is_route = g; takes = takes; least = every_less_4 (λ l. x ≤ time (worst less_4.legs p) l) one' two' })
    difference

third_open : IsRouteBetween (legs_with Open Closed Open Closed Open) 0 3 (0 ∷ 4 ∷ 3 ∷ []) → Closed ≡ Open
third_open f = sym (ap (λ (x : Row). x.standing) (leg_is Open Closed Open Closed Open 3 (omega arith))) ∙ f.chain.leads.1.1.0.is_open

-- with legs 1 and 3 closed, each of the three lists has a closed leg
none_without_1_and_3 : (q : List ℕ) → IsRoute (from_first_to_last (closed (closed four_fix_rows 1) 3)) q → ⊥
unfolding legs_with
none_without_1_and_3 =
    of_every_route Open Closed Open Closed Open (λ _. ⊥)
    (λ f. closed_open Closed refl (second_open Open Closed Open Closed Open 0 1 [] (omega arith) f))
    (λ f. closed_open Closed refl (third_open f))
    (λ f. closed_open Closed refl (second_open Open Closed Open Closed Open 2 3 [] (omega arith) f))

pub four_fix_closed : FourFixClosed four_fix_rows
unfolding legs_with
four_fix_closed =
    let n = four_fix_numbers Open Open Open Open Closed in
    let first = by_one Open Open Open Open Closed refl refl in
    let last = by_two Open Open Open Open Closed refl refl in
    let regret_first = regret_less_4 (0 ∷ 1 ∷ []) first 450 450 (2 ∷ 3 ∷ []) last (omega arith) (omega arith) (omega arith) (omega arith) in
    let regret_last = regret_less_4 (2 ∷ 3 ∷ []) last 600 450 (0 ∷ 1 ∷ []) first (omega arith) (omega arith) (omega arith) (omega arith) in
    record {
      tie_without_leg_4 = regret_last;
      refused_without_legs_1_and_3 = λ memory h. (inr (refl, h, none_without_1_and_3), refl);
      without_leg_4 = record {
        is_route = first;
        regret = regret_first;
        first = λ q y f ne r.
            every_less_4 (λ l. (l ≡ 0 ∷ 1 ∷ [] → ⊥) → (z : ℕ) → HasRegret less_4 l z → IsPreferred 450 (0 ∷ 1 ∷ []) z l)
            (λ m. absurd (m refl))
            (λ _. beaten less_4 (0 ∷ 1 ∷ []) 450 (2 ∷ 3 ∷ []) 450 regret_last (inr (refl, inl (omega arith))))
            q f ne y r;
      };
      without_legs_1_and_3 = none_without_1_and_3;
    }

pub small_lattice_worked : SmallLatticeWorked
unfolding grid_leg
small_lattice_worked top steps =
    let leg = grid_at 3 2 top steps 2 (omega arith) in
    (length_grid 3 2 top steps, ap (λ (r : Row). r.from) leg, ap (λ (r : Row). r.to) leg)
