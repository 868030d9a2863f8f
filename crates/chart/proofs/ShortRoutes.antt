-- A chain that meets no fix twice has fewer legs than there are fixes.
use Rattle.std.proofs.Common.{◌≡◌, ℕ, ◌+◌, ◌<◌, ◌≤◌, Bool, true, false, cond, List, [], ◌∷◌, length, get_or, set, replicate, count_by, refl, ap, ◌∙◌, subst, inl, inr, ⊎_elim, arith, length-set}
use Rattle.std.proofs.lemmas.List.{get_or-set_other, get_or-replicate, length-replicate}
use Rattle.std.proofs.lemmas.List.Sums.{sum_by-set, count_by-le-length}
use Rattle.chart.specs.declared.leg.Leg.{Leg}
use Rattle.chart.specs.Legs.{leg_at, IsChart}
use Rattle.chart.proofs.RouteEnds.{route_leaves_fix}
use Rattle.chart.specs.Routes.{Leads, fixes_entered, fixes_of_chain, IsIn, HasNoRepeats, IsChain, RoutesAreShort}

-- each number sets a flag of its own
flags_suffice : (xs : List ℕ) (flags : List Bool) → HasNoRepeats xs → ((x : ℕ) → IsIn x xs → (x < length flags) × (get_or flags x false ≡ false)) → length xs + count_by (λ b. b) flags ≤ length flags
flags_suffice [] flags d h = let c = count_by-le-length (λ b. b) flags in omega arith
flags_suffice (x ∷ xs) flags d h =
    let here = h x (inl refl) in
    let e = sum_by-set (λ b. cond b 1 0) flags x true false here.0 in
    let z : ◌≡◌ {A = ℕ} (cond (get_or flags x false) 1 0) 0 = ap (λ b. cond b 1 0) here.1 in
    let l = length-set flags x true in
    let more = flags_suffice xs (set flags x true) d.1 (λ y i.
    let hy = h y (inr i) in
    let ne : y ≡ x → ⊥ = λ e. d.0 (subst (λ v. IsIn v xs) e i) in
    (omega (arith, hy.0), get_or-set_other flags x y true false ne ∙ hy.1)) in
    omega arith

-- numbers below n, none of them twice, are at most n
pub no_repeats_few : (xs : List ℕ) (n : ℕ) → HasNoRepeats xs → ((x : ℕ) → IsIn x xs → x < n) → length xs ≤ n
no_repeats_few xs n d h =
    let l = length-replicate n false in
    let p = flags_suffice xs (replicate n false) d (λ x i. let b = h x i in (omega arith, get_or-replicate n x false false b)) in
    omega arith

length_fixes_entered : (legs : List Leg) (ks : List ℕ) → length (fixes_entered legs ks) ≡ length ks
length_fixes_entered legs [] = refl
length_fixes_entered legs (k ∷ ks) = let h = length_fixes_entered legs ks in omega arith

module _ (fixes : ℕ) (legs : List Leg) (is_chart : IsChart fixes legs) where
  pub fixes_entered_below : (ks : List ℕ) (s t : ℕ) → Leads legs s ks t → (v : ℕ) → IsIn v (fixes_entered legs ks) → v < fixes
  fixes_entered_below [] s t l v i = absurd i
  fixes_entered_below (k ∷ ks) s t l v i =
      ⊎_elim (λ e. let h = is_chart.enters k l.0.there in omega arith) (λ j. fixes_entered_below ks (leg_at legs k).to t l.1 v j) i

  pub chain_short : (ks : List ℕ) (s t : ℕ) → s < fixes → IsChain legs s ks t → length ks < fixes
  chain_short ks s t small chain =
      let few = no_repeats_few (fixes_of_chain legs s ks) fixes chain.once (λ x i. ⊎_elim (λ e. omega arith) (λ j. fixes_entered_below ks s t chain.leads x j) i) in
      omega (arith, length_fixes_entered legs ks)

  pub routes_short : RoutesAreShort fixes legs
  routes_short s t ks r = let h = chain_short ks s t (route_leaves_fix legs is_chart s t ks r) r.chain in omega arith
