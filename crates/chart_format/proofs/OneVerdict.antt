-- A file means one chart at most, has one fault at most,
-- and never both where there is room for its legs.
use Rattle.std.proofs.Common.{◌≡◌, ℕ, ◌+◌, ◌≤◌, ◌⊎◌, List, length, sym, refl, ap, ◌∙◌, subst, inl, inr, arith}
use Rattle.chart.specs.declared.row.Row.{Row}
use Rattle.chart_format.specs.declared.faults.Layer.{Layer}
use Rattle.chart_format.specs.declared.faults.Report.{Report}
use Rattle.chart_format.specs.Format.{Name, Means, end_bytes, mark_length}
use Rattle.chart_format.specs.Checks.{IsFirstFailure, Pass, chart_checks}
use Rattle.chart_format.specs.Faults.{HasPrefix, HasFault, at_chart, at_fix, at_leg, at_end, after_end, Finds}
use Rattle.chart_format.specs.Faults.{HasOneVerdict}
use Rattle.chart_format.proofs.BytesPass.{first_failure_is_one, passing_never_fails, chart_bytes_pass}
use Rattle.chart_format.proofs.OneEnding.{Verdict, accepted, refused, end_fails, goes_on, done, EndsAs, fix_fails, leg_fails, closes}
use Rattle.chart_format.proofs.OneView.{View, views_agree}

view_means : {file : List ℕ} {names : List Name} {legs : List Row} → Means file names legs → View file (length names) (length legs) names legs end_bytes accepted
view_means means = record { bytes = means.bytes; valid = means.valid; names_first = inl refl; ends = closes refl refl (done refl) }

view_of_prefix : {file : List ℕ} {p n m : ℕ} {names : List Name} {legs : List Row} {rest : List ℕ} {o : Verdict} →
    HasPrefix file p n m names legs rest → (length names ≡ n) ⊎ (length legs ≡ 0) → EndsAs n m names legs rest o → View file n m names legs rest o
view_of_prefix b first ends = record { bytes = b.bytes; valid = b.valid; names_first = first; ends = ends }

-- a fault is one of the chart's record, or what a view comes to
data FaultCase (file : List ℕ) (room x p : ℕ) : Type 0 where
  early : p ≡ 0 → IsFirstFailure (chart_checks room file) x → FaultCase file room x p
  late : {n m : ℕ} {names : List Name} {legs : List Row} {rest : List ℕ} → m ≤ room → View file n m names legs rest (refused x p) → FaultCase file room x p

early_or_late : {file : List ℕ} {room x p : ℕ} → HasFault file room x p → FaultCase file room x p
early_or_late (at_chart e f) = early e f
early_or_late (at_fix n m names rest b fits lt f) = late fits (view_of_prefix b (inr refl) (fix_fails b.place lt f))
early_or_late (at_leg n m names legs rest b fits all lt f) = late fits (view_of_prefix b (inl all) (leg_fails b.place all lt f))
early_or_late (at_end n m names legs rest b fits all whole f) = late fits (view_of_prefix b (inl all) (closes all whole (end_fails b.place f)))
early_or_late (after_end n m q names legs rest b fits all whole e f) =
    late fits (view_of_prefix b (inl all) (closes all whole (goes_on rest (e ∙ ap (λ z. z + mark_length) b.place) refl f)))

-- the chart's record has no fault where a view begins with it and there is room for its legs
chart_never_fails : {file : List ℕ} {room x n m : ℕ} {names : List Name} {legs : List Row} {rest : List ℕ} {o : Verdict} → View file n m names legs rest o → m ≤ room → IsFirstFailure (chart_checks room file) x → ⊥
chart_never_fails {file} {room} {x} {n} {m} {names} {legs} {rest} v fits f =
    passing_never_fails (chart_checks room file) x f (subst (λ t. Pass (chart_checks room t)) (sym v.bytes) (chart_bytes_pass room n m names legs rest v.valid.counts_valid fits))

fault_is_one : {file : List ℕ} {room x y p q : ℕ} → FaultCase file room x p → FaultCase file room y q → (x ≡ y) × (p ≡ q)
fault_is_one {file} {room} {x} {y} (early e f) (early e' g) = (first_failure_is_one (chart_checks room file) x y f g, e ∙ sym e')
fault_is_one (early e f) (late fits v) = absurd (chart_never_fails v fits f)
fault_is_one (late fits v) (early e f) = absurd (chart_never_fails v fits f)
fault_is_one (late fits v) (late fits' w) = let e = (views_agree v w).outcomes in (cc, cc)

means_never_fails : {file : List ℕ} {room x p : ℕ} {names : List Name} {legs : List Row} → Means file names legs → length legs ≤ room → FaultCase file room x p → ⊥
means_never_fails means fits (early e f) = chart_never_fails (view_means means) fits f
means_never_fails means fits (late fits' v) =
    let e = (views_agree (view_means means) v).outcomes in
    let z : ◌≡◌ {A = ℕ} 0 1 = cc in
    omega arith

-- a fault has one layer
layer_is_one : (a b : Layer) (x : ℕ) → Finds a x → Finds b x → a ≡ b
layer_is_one a b x f g = grind arith

report_is_one : (r s : Report) → r.number ≡ s.number → r.layer ≡ s.layer → r.place ≡ s.place → r ≡ s
report_is_one r s e f g = grind arith

pub one_verdict : (file : List ℕ) (room : ℕ) → HasOneVerdict file room
one_verdict file room = record {
  chart = λ _ _ _ _ a b. let t = views_agree (view_means a) (view_means b) in (t.names, t.legs);
  either = λ _ _ _ means fits told. means_never_fails means fits (early_or_late told.has_fault);
  fault = λ r s a b.
      let e = fault_is_one (early_or_late a.has_fault) (early_or_late b.has_fault) in
      report_is_one r s e.0 (layer_is_one r.layer s.layer s.number (subst (Finds r.layer) e.0 a.in_layer) b.in_layer) e.1;
}
