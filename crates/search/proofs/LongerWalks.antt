-- A walk one leg longer, where it cannot go on, and where it ends.
use Rattle.std.proofs.Common.{◌≡◌, ℕ, ◌+◌, ◌<◌, Bool, true, false, MatchBool, Some, None, MatchOption, Option, List, [], ◌∷◌, ◌++◌, length, get_or, take, drop, set, replicate, sym, refl, ap, ◌∙◌, subst, arith}
use Rattle.std.specs.Bool.{then_some}
use Rattle.std.proofs.lemmas.List.{length-replicate, take-append-drop, drop_more}
use Rattle.std.proofs.lemmas.Grind.{common_steps}
use Rattle.std.proofs.lemmas.Bool.{cases_eq, cases_lt, false_from_ne_true}
use Rattle.chart.specs.declared.leg.Leg.{Leg}
use Rattle.chart.specs.declared.row.Standing.TheVariants.{Open}
use Rattle.chart.specs.Legs.{leg_at, leg_get}
use Rattle.chart.specs.Routes.{fixes_entered, fixes_of_chain, HasNoRepeats, IsChain}
use Rattle.chart.proofs.Chains.{leads_push, leads_on, fixes_entered_append, in_append_left, in_middle, in_push, no_repeats_push, no_repeats_apart}
use Rattle.chart.proofs.LegsByNumber.{leg_get_some, leg_get_not_none}
use Rattle.search.specs.Walks.{AreFlagsOf, IsWalk, CanStep, StepAnswer, IsNoChain}

pub true_false : (b : Bool) → b ≡ true → b ≡ false → ⊥
true_false b p r = cc

pub flags_push : (flags : List Bool) (vs : List ℕ) (v : ℕ) → v < length flags → AreFlagsOf flags vs → AreFlagsOf (set flags v true) (vs ++ v ∷ [])
flags_push flags vs v lt f = record {
  back = λ x e. grind (arith, common_steps, f.back, in_append_left vs (v ∷ []) x, in_middle vs v [], cases_eq x v);
  on = λ x i. grind (arith, common_steps, f.on, in_push vs x v, cases_eq x v);
}

pub unset : (n x : ℕ) → get_or (replicate n false) x false ≡ false
unset n x = grind (arith, common_steps, cases_lt x n)

pub flags_none : (n : ℕ) → AreFlagsOf (replicate n false) []
flags_none n = record { back = λ v e. true_false _ e (unset n v); on = λ v i. absurd i }

pub walk_start : (legs : List Leg) (n s : ℕ) → s < n → IsWalk legs s [] s (set (replicate n false) s true)
walk_start legs n s lt = record {
  chain = record { leads = refl; once = ((λ i. i), tt) };
  flags = flags_push (replicate n false) [] s (omega (arith, length-replicate n false)) (flags_none n);
}

module _ (legs : List Leg) (s : ℕ) (ks : List ℕ) (z : ℕ) (used : List Bool) (walk : IsWalk legs s ks z used) (k : ℕ) where
  pub walk_push : CanStep legs z used k → (leg_at legs k).to < length used → IsWalk legs s (ks ++ k ∷ []) (leg_at legs k).to (set used (leg_at legs k).to true)
  walk_push st lt =
      let e = fixes_entered_append legs ks (k ∷ []) in
      record {
        chain = record {
          leads = leads_push legs ks s z k walk.chain.leads st.leaves;
          once = subst (λ vs. HasNoRepeats (s ∷ vs)) (sym e) (no_repeats_push (fixes_of_chain legs s ks) (leg_at legs k).to walk.chain.once (λ i. true_false _ (walk.flags.on _ i) st.fresh));
        };
        flags = subst (λ vs. AreFlagsOf (set used (leg_at legs k).to true) (s ∷ vs)) (sym e) (flags_push used (fixes_of_chain legs s ks) (leg_at legs k).to lt walk.flags);
      }

  -- a chain that goes on by k steps along k
  pub chain_steps : (t : ℕ) (rest : List ℕ) → IsChain legs s (ks ++ k ∷ rest) t → CanStep legs z used k
  chain_steps t rest c = record {
    leaves = (leads_on legs ks (k ∷ rest) s z t walk.chain.leads c.leads).0;
    fresh = false_from_ne_true _ (λ e.
        no_repeats_apart (fixes_of_chain legs s ks) (leg_at legs k).to (fixes_entered legs rest)
        (subst (λ vs. HasNoRepeats (s ∷ vs)) (fixes_entered_append legs ks (k ∷ rest)) c.once) (walk.flags.back _ e));
  }

-- a leg that was read, by its number
pub read_steps : (legs : List Leg) (z : ℕ) (used : List Bool) (k : ℕ) (leg : Leg) → k < length legs → leg ≡ leg_at legs k → leg.from ≡ z → leg.standing ≡ Open → get_or used leg.to false ≡ false → CanStep legs z used k
read_steps legs z used k leg lt e from is_open fresh = record {
  leaves = record { there = lt; is_open = cc; from = cc };
  fresh = cc;
}

-- the leg leads on from z to a fix that is not used
abbrev pub LeadsOn : ℕ → List Bool → Leg → Type 0
LeadsOn z used leg = (leg.from ≡ z) × (leg.standing ≡ Open) × (get_or used leg.to false ≡ false)

-- a leg that was read and is kept only if it leads on
pub step_answers : (legs : List Leg) (z : ℕ) (used : List Bool) (k : ℕ) (o r : Option Leg) (P : Leg → Bool → Type 0) → o ≡ leg_get legs k → MatchOption o (r ≡ None) (λ l. (b : Bool) × P l b × (r ≡ then_some b l)) → ((l : Leg) (b : Bool) → P l b → MatchBool b (LeadsOn z used l) (LeadsOn z used l → ⊥)) → StepAnswer legs z used k r
step_answers legs z used k None r P is m test = rw m (λ st. leg_get_not_none legs k st.leaves.there (sym is))
step_answers legs z used k (Some l) r P is m test = rw m.2 (by_test m.0 (test l m.0 m.1))
  where
    leg : (k < length legs) × (l ≡ leg_at legs k)
    leg = leg_get_some legs k l is

    by_test : (b : Bool) → MatchBool b (LeadsOn z used l) (LeadsOn z used l → ⊥) → StepAnswer legs z used k (then_some b l)
    by_test true on = (leg.1, read_steps legs z used k l leg.0 leg.1 on.0 on.1 on.2)
    by_test false off = λ st. let e = leg.1 in let from = st.leaves.from in let is_open = st.leaves.is_open in let fresh = st.fresh in off (cc, cc, cc)

-- a list at one of its places
pub split_at : (list : List ℕ) (i : ℕ) → i < length list → list ≡ take i list ++ get_or list i 0 ∷ drop (i + 1) list
split_at list i lt = sym (take-append-drop i list) ∙ ap (λ r. take i list ++ r) (drop_more list i 0 lt)

-- a walk along the first legs of a list that does not go on
pub walk_stuck : (legs : List Leg) (s : ℕ) (list : List ℕ) (i z : ℕ) (used : List Bool) → IsWalk legs s (take i list) z used → i < length list → (CanStep legs z used (get_or list i 0) → ⊥) → IsNoChain legs s list
walk_stuck legs s list i z used walk lt n t c =
    n (chain_steps legs s (take i list) z used walk (get_or list i 0) t (drop (i + 1) list) (subst (λ ks. IsChain legs s ks t) (split_at list i lt) c))
