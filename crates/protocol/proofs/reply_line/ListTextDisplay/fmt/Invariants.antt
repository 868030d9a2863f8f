-- So far the numbers before this one are written.
use Rattle.std.proofs.Common.{take}
use Rattle.std.specs.Fmt.{HasWritten, IsPlainFormatter}
use Rattle.protocol.specs.ReplyTexts.{list_text}
use Rattle.protocol.proofs.reply_line.ListTextDisplay.fmt.Given as goal

abbrev pub invariant-loop-k : goal.invariant-loop-k
invariant-loop-k g l =
    IsPlainFormatter l.initial.f → HasWritten g.W.Write.write_str_gives l.initial.f (list_text (take l.k-index l.k-items)) l.f
