use Rattle.std.proofs.Common.{◌≡◌, length, drop, set, ap, ◌∙◌, arith}
use Rattle.chart_format.specs.Checks.{body, leg_in}
use Rattle.reader.specs.internal.RecordPlaces.{legs_at}
use Rattle.reader.proofs.MemoryFilled.{filled_more, filled_all}
use Rattle.reader.proofs.checked_file.fill.Goals as goal

pub loop-k-preserved : goal.loop-k-preserved
loop-k-preserved c =
    filled_more c.args.file.now c.args.base c.loop-k.k _ c.loop-k.rows _ c.loop-k.invariant c.loop-k-test.true
    (ap (set c.loop-k.rows c.loop-k.k) (c.leg_of_record.ensures ∙ ap (λ p. leg_in (body (drop p c.args.file.now))) (omega arith)))

pub returns : goal.returns
returns c =
    let all : c.loop-k.k ≡ length c.args.rows.now = omega arith in
    filled_all c.args.file.now c.args.base c.loop-k.k _ c.loop-k.rows c.loop-k.invariant c.loop-k-test.false ∙ ap (legs_at c.args.file.now c.args.base) all
