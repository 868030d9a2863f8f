-- From two fixes for which the table has a margin, a rival keeps it on whatever way the route goes on.
use Rattle.std.proofs.Common.{◌≡◌, ℕ, zero, suc, ◌+◌, ◌-◌, ◌<◌, ◌≤◌, cond, ◌⊎◌, ◌≢◌, List, [], ◌∷◌, length, sym, refl, ap, ◌∙◌, subst, inl, inr, ⊎_elim, arith, eq-eqb, ne_eqb}
use Rattle.std.proofs.lemmas.Bool.{cases_eq, cases_lt}
use Rattle.chart.specs.Legs.{leg_at}
use Rattle.chart.specs.Routes.{IsIn}
use Rattle.chart.specs.Regret.{Query, time}
use Rattle.pursuit.specs.Rivals.{IsRouteLeg, IsRivalLeg, IsPath}
use Rattle.pursuit.specs.Pursuits.{IsMarginTable, countermove_time}
use Rattle.pursuit.proofs.Paths.{path_rises, path_leaves, route_leg_is_rival_leg}

module _ {t : Query} {height : ℕ → ℕ} {offset : ℕ} {margin : ℕ → ℕ → ℕ} (table : IsMarginTable t height offset margin) (w : ℕ → ℕ) where
  -- the rival, which is at b, may come to leave the fix v
  abbrev pub IsStillAhead : ℕ → ℕ → Type 0
  IsStillAhead b v = (v ≡ b) ⊎ (height b < height v)

  -- The route is at a and goes on by ks, the rival is at b, and the table has a margin for them. In the choice w the legs ks take
  -- their high time, and of the others those that the rival may come to take their low time.
  pub record IsPosition (ks : List ℕ) (a b : ℕ) : Type 0 where
    pub path : IsPath (IsRouteLeg t) t.legs a ks t.destination
    pub on : (k : ℕ) → IsIn k ks → w k ≡ (leg_at t.legs k).high
    pub off : (k : ℕ) → (IsIn k ks → ⊥) → IsStillAhead b (leg_at t.legs k).from → w k ≡ (leg_at t.legs k).low
    pub has_margin : 1 ≤ margin a b

  -- a rival goes on to the destination, and keeps the margin
  pub record KeepsMargin (ks : List ℕ) (a b : ℕ) : Type 0 where
    pub by : List ℕ
    pub path : IsPath (IsRivalLeg t) t.legs b by t.destination
    pub keeps : margin a b + time w by ≤ time w ks + offset

  -- how many moves there may be
  abbrev moves : List ℕ → ℕ → ℕ
  moves ks b = length ks + (height t.destination + 1 - height b)

  -- in fewer than n moves a rival comes to the destination and keeps the margin
  abbrev KeepsMarginWithin : ℕ → Type 0
  KeepsMarginWithin n = (ks : List ℕ) (a b : ℕ) → moves ks b < n → IsPosition ks a b → KeepsMargin ks a b

  route_rises : (k : ℕ) → IsRouteLeg t k → height (leg_at t.legs k).from < height (leg_at t.legs k).to
  route_rises k l = table.rises k (route_leg_is_rival_leg t k l)

  -- once the rival has moved on from b to c, what it may come to leave is higher than b
  still_higher : (b c v : ℕ) → height b < height c → IsStillAhead c v → height b < height v
  still_higher b c v up s = ⊎_elim (λ e. subst (λ y. height b < height y) (sym e) up) (λ h. omega arith) s

  -- where both leave one fix, how long the rival's leg takes
  countermove_takes : (e f : ℕ) → (f ≡ e → w f ≡ (leg_at t.legs f).high) → ((f ≡ e → ⊥) → w f ≡ (leg_at t.legs f).low) → w f ≡ countermove_time t.legs e f
  countermove_takes e f same other =
      ⊎_elim
      (λ s. same s ∙ sym (ap (λ b. cond b (leg_at t.legs f).high (leg_at t.legs f).low) (eq-eqb f e s)))
      (λ n. other n ∙ sym (ap (λ b. cond b (leg_at t.legs f).high (leg_at t.legs f).low) (ne_eqb f e n)))
      (cases_eq f e)

  module _ (n : ℕ) (deeper : KeepsMarginWithin n) where
    -- the rival is at the lower fix, and moves
    after_rival_move : (ks : List ℕ) (a b : ℕ) → moves ks b < suc n → IsPosition ks a b → height b < height a → KeepsMargin ks a b
    after_rival_move ks a b m position lt =
        let within = path_rises (IsRouteLeg t) t.legs height route_rises ks a t.destination position.path in
        let some = (table.supported a b).rival_moves lt within position.has_margin in
        let f = some.0 in
        let from : height (leg_at t.legs f).from ≡ height b = ap height some.1 in
        let move = some.2 position.has_margin in
        let rises = table.rises f move.0 in
        let behind : IsIn f ks → ⊥ = λ i. let l = path_leaves (IsRouteLeg t) t.legs height route_rises ks a t.destination position.path f i in omega arith in
        let low = position.off f behind (inl some.1) in
        let rest = deeper ks a (leg_at t.legs f).to (omega (arith, move.1)) (record {
          path = position.path;
          on = position.on;
          off = λ k n s. position.off k n (inr (still_higher b (leg_at t.legs f).to (leg_at t.legs k).from (omega arith) s));
          has_margin = let one = position.has_margin in omega (arith, move.1);
        }) in
        record {
          by = f ∷ rest.by;
          path = (move.0, some.1, rest.path);
          keeps = let k = rest.keeps in omega (arith, move.1);
        }

    -- the route is at no higher fix, and moves
    after_route_move : (ks : List ℕ) (a b : ℕ) → moves ks b < suc n → IsPosition ks a b → a ≢ b → height a ≤ height b → KeepsMargin ks a b
    after_route_move [] a b m position ne le =
        let none = (table.supported a b).rival_past position.path ne le in
        let has_margin = position.has_margin in
        absurd (omega arith)
    after_route_move (e ∷ ks) a b m position ne le =
        let leg = position.path.0 in
        let from = position.path.1 in
        let move = (table.supported a b).route_moves ne le e leg.there from position.has_margin leg in
        let high = position.on e (inl refl) in
        let level : height (leg_at t.legs e).from ≡ height a = ap height from in
        let gone : (k : ℕ) → IsStillAhead b (leg_at t.legs k).from → k ≡ e → ⊥ = λ k s same.
        let there : (leg_at t.legs k).from ≡ a = ap (λ y. (leg_at t.legs y).from) same ∙ from in
        ⊎_elim (λ c. ne (sym there ∙ c)) (λ h. let l : height (leg_at t.legs k).from ≡ height a = ap height there in omega arith) s in
        let rest = deeper ks (leg_at t.legs e).to b (omega arith) (record {
          path = position.path.2;
          on = λ k i. position.on k (inr i);
          off = λ k n s. position.off k (⊎_elim (gone k s) n) s;
          has_margin = move.0;
        }) in
        record { by = rest.by; path = rest.path; keeps = let k = rest.keeps in omega (arith, move.1) }

    -- both are at one fix, and move
    after_both_move : (ks : List ℕ) (a : ℕ) → moves ks a < suc n → IsPosition ks a a → KeepsMargin ks a a
    after_both_move [] a m position =
        record { by = []; path = position.path; keeps = let b = (table.supported a a).both_arrived position.path position.path in omega arith }
    after_both_move (e ∷ ks) a m position =
        let leg = position.path.0 in
        let some = (table.supported a a).both_move refl e leg.there position.path.1 position.has_margin leg in
        let f = some.0 in
        let move = some.2 position.has_margin in
        let from : height (leg_at t.legs f).from ≡ height a = ap height some.1 in
        let from' : height (leg_at t.legs e).from ≡ height a = ap height position.path.1 in
        let up = table.rises f move.0 in
        let up' = route_rises e leg in
        let high = position.on e (inl refl) in
        let ahead : IsIn f ks → ⊥ = λ i. let l = path_leaves (IsRouteLeg t) t.legs height route_rises ks (leg_at t.legs e).to t.destination position.path.2 f i in omega arith in
        let takes : w f ≡ countermove_time t.legs e f = countermove_takes e f (λ s. position.on f (inl s)) (λ s. position.off f (⊎_elim s ahead) (inl some.1)) in
        let rest = deeper ks (leg_at t.legs e).to (leg_at t.legs f).to (omega arith) (record {
          path = position.path.2;
          on = λ k i. position.on k (inr i);
          off = λ k n s.
              let h : height a < height (leg_at t.legs k).from = still_higher a (leg_at t.legs f).to (leg_at t.legs k).from (omega arith) s in
              position.off k (⊎_elim (λ (same : k ≡ e). let l = ap (λ y. height (leg_at t.legs y).from) same in omega arith) n) (inr h);
          has_margin = move.1;
        }) in
        record {
          by = f ∷ rest.by;
          path = (move.0, some.1, rest.path);
          keeps = let k = rest.keeps in omega (arith, move.2);
        }

    after_move : (ks : List ℕ) (a b : ℕ) → moves ks b < suc n → IsPosition ks a b → KeepsMargin ks a b
    after_move ks a b m position =
        ⊎_elim
        (λ (e : a ≡ b). subst (λ y. KeepsMargin ks a y) e (after_both_move ks a (subst (λ y. moves ks y < suc n) (sym e) m) (subst (λ y. IsPosition ks a y) (sym e) position)))
        (λ (ne : a ≢ b). ⊎_elim (λ lt. after_rival_move ks a b m position lt) (λ le. after_route_move ks a b m position ne le) (cases_lt (height b) (height a)))
        (cases_eq a b)

  kept_within : (n : ℕ) → KeepsMarginWithin n
  kept_within zero = λ ks a b m position. absurd (omega arith)
  kept_within (suc n) = after_move n (kept_within n)

  -- a margin that the table has is kept
  pub kept : (ks : List ℕ) (a b : ℕ) → IsPosition ks a b → KeepsMargin ks a b
  kept ks a b position = kept_within (suc (moves ks b)) ks a b (omega arith) position
