-- So far the list has what the words before this one say.
use Rattle.protocol.specs.internal.Parses.{SaysFirst}
use Rattle.protocol.proofs.parsing.parse_numbers.Given as goal

abbrev pub invariant-loop-word : goal.invariant-loop-word
invariant-loop-word l = SaysFirst l.words l.word-index l.list.items
