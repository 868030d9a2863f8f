use Rattle.std.proofs.Common.{◌≡◌, ◌∷◌, arith, rules}
use Rattle.protocol.specs.Lines.{IsWordsOf, IsComment, SaysLine, Words, word}
use Rattle.protocol.specs.declared.command.Line.TheVariants.{Unknown}
use Rattle.protocol.proofs.LineWords.{words_after_first}
use Rattle.protocol.proofs.Parts.{line_said, words_from_first, too_many_words}
use Rattle.protocol.specs.Verbs.{verb_word}
use Rattle.protocol.specs.internal.Parses.{CollectsList}
use Rattle.protocol.proofs.parsing.parse_line.Goals as goal

pub returns : goal.returns
returns c =
    let its : IsWordsOf c.args.line.now c.in_ok-words.words.items = search rules in
    let says = rw c.deref.ensures.value at c.read_words.ensures.says in
    record { says = line_said c.args.line.now c.in_ok-words.words.items c.read_words.result its says }

pub returns-then-starts_with : goal.returns-then-starts_with
returns-then-starts_with c =
    let (rest, its) = words_after_first c.args.line.now c.split_whitespace-words.result c.next.new.self c.in-Some.first c.utf8.line c.split_whitespace-words.ensures.rest c.in-Some.ensures.steps in
    let words : Words = c.in-Some.first ∷ rest in
    let comment : IsComment words = search rules in
    record { says = (words, its, comment) }

pub returns-in_default-of : goal.returns-in_default-of
returns-in_default-of c =
    let (rest, its) = words_after_first c.args.line.now c.split_whitespace-words.result c.next.new.self c.in-Some.first c.utf8.line c.split_whitespace-words.ensures.rest c.in-Some.ensures.steps in
    let words : Words = c.in-Some.first ∷ rest in
    let unknown : SaysLine words Unknown = search rules in
    record { says = (words, its, unknown) }

pub returns-then-count-gt-MOST_WORDS : goal.returns-then-count-gt-MOST_WORDS
returns-then-count-gt-MOST_WORDS c =
    let (rest, drains, many) = c.count.ensures.ran in
    let words : Words = c.in-Some.first ∷ rest in
    let its : IsWordsOf c.args.line.now words = words_from_first _ c.split_whitespace-words.result _ c.in-Some.first _ c.split_whitespace-words.ensures.rest c.in-Some.ensures.steps drains in
    let other : CollectsList c.in-Some-of.verb → ⊥ = search rules in
    let first : word words 0 ≡ verb_word c.in-Some-of.verb = search rules in
    let nothing = too_many_words c.in-Some-of.verb rest other (omega (arith, many, c.if-count-gt-MOST_WORDS.true)) in
    record { says = (words, its, (first, nothing)) }
