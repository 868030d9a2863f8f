-- Paths put together, paths in an order in which their legs rise, and the legs of a route as a path.
use Rattle.std.proofs.Common.{◌≡◌, ℕ, ◌<◌, ◌≤◌, ◌≢◌, List, [], ◌∷◌, ◌++◌, sym, refl, ◌∙◌, subst, inl, inr, ⊎_elim, arith}
use Rattle.chart.specs.declared.leg.Leg.{Leg}
use Rattle.chart.specs.declared.row.Standing.{Standing}
use Rattle.chart.specs.declared.row.Standing.TheVariants.{Open, Closed}
use Rattle.chart.specs.Legs.{leg_at}
use Rattle.chart.specs.Routes.{Leaves, Leads, fixes_entered, fixes_of_chain, IsIn, HasNoRepeats}
use Rattle.chart.specs.Regret.{Query, IsRoute}
use Rattle.regret.proofs.WorstChoice.{in_fixes_entered}
use Rattle.chart.proofs.Chains.{left_not_end}
use Rattle.pursuit.specs.Rivals.{IsRouteLeg, IsRivalLeg, IsPath}

module _ (P : ℕ → Type 0) (legs : List Leg) where
  pub path_join : (ks ms : List ℕ) (a z b : ℕ) → IsPath P legs a ks z → IsPath P legs z ms b → IsPath P legs a (ks ++ ms) b
  path_join [] ms a z b e m = subst (λ y. IsPath P legs y ms b) (sym e) m
  path_join (k ∷ ks) ms a z b h m = (h.0, h.1, path_join ks ms (leg_at legs k).to z b h.2 m)

  module _ (height : ℕ → ℕ) (rises : (k : ℕ) → P k → height (leg_at legs k).from < height (leg_at legs k).to) where
    -- a path ends no lower than it begins
    pub path_rises : (ks : List ℕ) (a z : ℕ) → IsPath P legs a ks z → height a ≤ height z
    path_rises [] a z e = subst (λ y. height a ≤ height y) e (omega arith)
    path_rises (k ∷ ks) a z h =
        let r = rises k h.0 in
        let i = path_rises ks (leg_at legs k).to z h.2 in
        subst (λ y. height y ≤ height z) h.1 (omega arith)

    -- its legs leave fixes no lower than its first
    pub path_leaves : (ks : List ℕ) (a z : ℕ) → IsPath P legs a ks z → (k : ℕ) → IsIn k ks → height a ≤ height (leg_at legs k).from
    path_leaves [] a z e k i = absurd i
    path_leaves (m ∷ ms) a z h k i =
        subst (λ y. height y ≤ height (leg_at legs k).from) h.1 (⊎_elim
        (λ e. subst (λ y. height (leg_at legs m).from ≤ height (leg_at legs y).from) (sym e) (omega arith))
        (λ j. let r = rises m h.0 in let l = path_leaves ms (leg_at legs m).to z h.2 k j in omega arith)
        i)

    -- and none as high as its last fix, or higher
    pub path_leaves_below : (ks : List ℕ) (a z : ℕ) → IsPath P legs a ks z → (k : ℕ) → IsIn k ks → height (leg_at legs k).from < height z
    path_leaves_below [] a z e k i = absurd i
    path_leaves_below (m ∷ ms) a z h k i =
        ⊎_elim
        (λ e. let r = rises m h.0 in let l = path_rises ms (leg_at legs m).to z h.2 in subst (λ y. height (leg_at legs y).from < height z) (sym e) (omega arith))
        (λ j. path_leaves_below ms (leg_at legs m).to z h.2 k j)
        i

    -- it enters fixes that are higher than its first
    pub path_enters : (ks : List ℕ) (a z : ℕ) → IsPath P legs a ks z → (v : ℕ) → IsIn v (fixes_entered legs ks) → height a < height v
    path_enters [] a z e v i = absurd i
    path_enters (m ∷ ms) a z h v i =
        let r = rises m h.0 in
        subst (λ y. height y < height v) h.1 (⊎_elim
        (λ e. subst (λ y. height (leg_at legs m).from < height y) (sym e) r)
        (λ j. let l = path_enters ms (leg_at legs m).to z h.2 v j in omega arith)
        i)

    -- so that it meets no fix twice
    pub path_once : (ks : List ℕ) (a z : ℕ) → IsPath P legs a ks z → HasNoRepeats (fixes_of_chain legs a ks)
    path_once [] a z e = ((λ i. i), tt)
    path_once (k ∷ ks) a z h =
        ((λ i. let l = path_enters (k ∷ ks) a z h a i in omega arith), path_once ks (leg_at legs k).to z h.2)

-- the legs of a list that leads on, and each of which has P, are a path
pub leads_path : (P : ℕ → Type 0) (legs : List Leg) (ks : List ℕ) (a z : ℕ) → Leads legs a ks z → ((k : ℕ) → IsIn k ks → P k) → IsPath P legs a ks z
leads_path P legs [] a z e all = e
leads_path P legs (k ∷ ks) a z l all = (all k (inl refl), l.0.from, leads_path P legs ks (leg_at legs k).to z l.1 (λ m i. all m (inr i)))

leg_leaves : (legs : List Leg) (ks : List ℕ) (a z : ℕ) → Leads legs a ks z → (k : ℕ) → IsIn k ks → Leaves legs (leg_at legs k).from k
leg_leaves legs [] a z l k i = absurd i
leg_leaves legs (m ∷ ms) a z l k i =
    ⊎_elim
    (λ e. subst (λ y. Leaves legs (leg_at legs y).from y) (sym e) (record { there = l.0.there; is_open = l.0.is_open; from = refl }))
    (λ j. leg_leaves legs ms (leg_at legs m).to z l.1 k j)
    i

-- each leg of a route may be on a route
pub route_legs : (t : Query) (p : List ℕ) → IsRoute t p → (k : ℕ) → IsIn k p → IsRouteLeg t k
route_legs t p is_route k i =
    let leaves = leg_leaves t.legs p t.source t.destination is_route.chain.leads k i in
    record {
      there = leaves.there;
      serves = record {
        is_open = leaves.is_open;
        enters = λ e. is_route.chain.once.0 (subst (λ y. IsIn y (fixes_entered t.legs p)) e (in_fixes_entered t.legs p k i));
        leaves = λ e. left_not_end t.legs p t.source t.destination is_route.chain.leads is_route.chain.once k i e;
      };
    }

open_not_closed : (s : Standing) → s ≡ Open → s ≢ Closed
open_not_closed s e c = let d : Open ≡ Closed = sym e ∙ c in cc

-- a leg that may be on a route may be on a rival
pub route_leg_is_rival_leg : (t : Query) (k : ℕ) → IsRouteLeg t k → IsRivalLeg t k
route_leg_is_rival_leg t k l = record {
  there = l.there;
  serves = record { not_closed = open_not_closed (leg_at t.legs k).standing l.serves.is_open; enters = l.serves.enters; leaves = l.serves.leaves };
}
