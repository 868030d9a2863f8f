-- A route joins two different fixes of its chart.
use Rattle.std.proofs.Common.{ℕ, ◌<◌, ◌≤◌, List, [], ◌∷◌, length, sym, subst, inl, inr, arith}
use Rattle.chart.specs.declared.leg.Leg.{Leg}
use Rattle.chart.specs.Legs.{leg_at, IsChart}
use Rattle.chart.specs.Routes.{Leads, IsIn, fixes_entered, IsRouteBetween}

-- a chain of at least one leg leaves and enters fixes
leads_within : {fixes : ℕ} (legs : List Leg) → IsChart fixes legs → (ks : List ℕ) (s t : ℕ) → Leads legs s ks t → 1 ≤ length ks → (s < fixes) × (t < fixes)
leads_within legs is_chart [] s t h some = absurd (omega arith)
leads_within {fixes = fixes} legs is_chart (k ∷ ks) s t h some = (subst (λ v. v < fixes) h.0.from (is_chart.leaves k h.0.there), enters (leg_at legs k).to ks (is_chart.enters k h.0.there) h.1)
  where
    enters : (v : ℕ) (js : List ℕ) → v < fixes → Leads legs v js t → t < fixes
    enters v [] lt e = subst (λ w. w < fixes) e lt
    enters v (j ∷ js) lt l = enters (leg_at legs j).to js (is_chart.enters j l.0.there) l.1

pub route_leaves_fix : {fixes : ℕ} (legs : List Leg) → IsChart fixes legs → (s t : ℕ) (ks : List ℕ) → IsRouteBetween legs s t ks → s < fixes
route_leaves_fix legs is_chart s t ks r = (leads_within legs is_chart ks s t r.chain.leads r.some).0

pub route_enters_fix : {fixes : ℕ} (legs : List Leg) → IsChart fixes legs → (s t : ℕ) (ks : List ℕ) → IsRouteBetween legs s t ks → t < fixes
route_enters_fix legs is_chart s t ks r = (leads_within legs is_chart ks s t r.chain.leads r.some).1

-- the last fix of a chain is entered
end_is_entered : (legs : List Leg) (ks : List ℕ) (s t : ℕ) → Leads legs s ks t → 1 ≤ length ks → IsIn t (fixes_entered legs ks)
end_is_entered legs [] s t h some = absurd (omega arith)
end_is_entered legs (k ∷ []) s t h some = inl (sym h.1)
end_is_entered legs (k ∷ j ∷ js) s t h some = inr (end_is_entered legs (j ∷ js) (leg_at legs k).to t h.1 (omega arith))

pub route_goes_away : (legs : List Leg) (s : ℕ) (ks : List ℕ) → IsRouteBetween legs s s ks → ⊥
route_goes_away legs s ks r = r.chain.once.0 (end_is_entered legs ks s s r.chain.leads r.some)
