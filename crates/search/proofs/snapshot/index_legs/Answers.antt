use Rattle.std.proofs.Common.{◌≡◌, ℕ, ◌+◌, ◌-◌, ◌∙◌, length, replicate, None, Option, arith, sym, refl, subst}
use Rattle.std.proofs.lemmas.List.{length-map}
use Rattle.chart.specs.Limits.{max_fixes}
use Rattle.search.specs.declared.snapshot.IndexedLeg.{IndexedLeg}
use Rattle.search.specs.internal.Index.{indexed_legs, next_legs, IsAdjacencyIndex}
use Rattle.search.proofs.AdjacencyIndexes.{index_of_none, leaves_in_first, index_step}
use Rattle.search.proofs.snapshot.index_legs.Goals as goal

pub loop-k-init : goal.loop-k-init
loop-k-init c =
    let row = c.args.legs.now in (
      refl,
      c.requires.fits_index,
      subst (λ f. IsAdjacencyIndex (indexed_legs row) (length row) f (next_legs row)) (sym c.requires.none)
          (subst (λ n. IsAdjacencyIndex (indexed_legs row) n (replicate {A = Option ℕ} max_fixes None) (next_legs row)) (length-map row (λ (l : IndexedLeg). l.leg)) (index_of_none (indexed_legs row) (next_legs row))),
    )

pub bounds-first-entry : goal.bounds-first-entry
bounds-first-entry c =
    let inv = c.loop-k.invariant in
    leaves_in_first {k = c.loop-k.k - 1} _ inv.1 (omega arith) c.loop-k.first inv.2.heads

pub loop-k-preserved : goal.loop-k-preserved
loop-k-preserved c =
    let inv = c.loop-k.invariant in
    let k = c.loop-k.k - 1 in
    let e : c.loop-k.k ≡ k + 1 = omega arith in
    let step = index_step {k = k} _ inv.1 (omega arith) (subst (λ n. IsAdjacencyIndex (indexed_legs c.loop-k.legs) n c.loop-k.first (next_legs c.loop-k.legs)) e inv.2) in
    (step.0 ∙ inv.0, step.1, step.2)
