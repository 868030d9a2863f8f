use Rattle.std.proofs.Common.{sym, ◌∙◌, arith, below_more}
use Rattle.std.proofs.lemmas.Bool.{false≢true, both_ways}
use Rattle.std.proofs.lemmas.Bool.Decides.{Decides-eqb}
use Rattle.std.proofs.lemmas.Grind.{common_steps}
use Rattle.std.proofs.lemmas.Slice.Eq.{slice_eq-Decides}
use Rattle.reader.proofs.NamesAt.{names_length, name_nth}
use Rattle.reader.proofs.checked_file.is_unused.Goals as goal

pub returns-then-eq : goal.returns-then-eq
returns-then-eq c =
    let d = slice_eq-Decides Decides-eqb _ _ _ c.eq.ensures in
    let n = names_length c.args.file.now c.args.starts.now in
    (λ e. absurd (false≢true e), λ f. absurd (f c.loop-at.at-index (omega arith) (name_nth c.args.file.now c.args.starts.now c.loop-at.at-index c.loop-at-test.true ∙ sym c.name_of_record.ensures ∙ d.0 c.if-eq.true)))

pub loop-at-preserved : goal.loop-at-preserved
loop-at-preserved c =
    let d = slice_eq-Decides Decides-eqb _ _ _ c.eq.ensures in
    below_more _ _ c.loop-at.invariant (λ e. both_ways c.eq.result c.if-eq.false (d.1 (c.name_of_record.ensures ∙ sym (name_nth c.args.file.now c.args.starts.now c.loop-at.at-index c.loop-at-test.true) ∙ e)))

pub returns : goal.returns
returns c = grind (arith, common_steps, names_length)
