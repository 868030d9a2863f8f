use Rattle.std.proofs.Common.{◌≡◌, ◌<◌, Some, length, get_or, drop, sym, ap, ◌∙◌, arith}
use Rattle.chart_format.specs.Checks.{body, name_in}
use Rattle.reader.proofs.NamesAt.{names_length, name_nth, name_part}
use Rattle.reader.proofs.checked_file.name_of_fix.Goals as goal

pub returns : goal.returns
returns c =
    let file = c.args.file.now in
    let starts = c.args.starts.now.items in
    let start = c.in_ok-start.start in
    let some : c.get.result ≡ Some start = grind arith in
    let found = rw (c.deref.ensures.0, some) at c.get.ensures.lookup in
    let nth = found.4 (omega arith) 0 in
    let inside : c.args.fix < length starts = omega (arith, found.3.0) in
    let at_fix : start.now ≡ get_or starts c.args.fix 0 = omega (arith, nth) in
    record {
      there = omega (arith, names_length file starts, inside);
      text = c.name_of_record.ensures ∙ ap (λ p. name_in (body (drop p file))) at_fix ∙ sym (name_nth file starts c.args.fix inside);
      place = omega (arith, c.requires.indexed c.args.fix inside);
      part = rw c.name_of_record.ensures (name_part file start.now);
    }
