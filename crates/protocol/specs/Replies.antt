-- The reply to a command, from what came of it.
use Rattle.std.specs.Prelude.{Result, Ok, Err}
use Rattle.std.specs.declared.alloc.AllocError.{AllocError}
use Rattle.protocol.specs.declared.command.Verb.{Verb}
use Rattle.protocol.specs.declared.rejection.CommandError.{CommandError}
use Rattle.protocol.specs.declared.rejection.CommandError.TheVariants.{Rejected as RejectedCommand, NoMemory}
use Rattle.protocol.specs.declared.reply_line.Answer.{Answer}
use Rattle.protocol.specs.declared.reply_line.ReplyLine.{ReplyLine}
use Rattle.protocol.specs.declared.reply_line.ReplyLine.TheVariants.{Granted, Rejected}

-- the answer, the rejection under the verb, or no reply for want of memory
abbrev pub reply_of : Verb → Result Answer CommandError → Result ReplyLine AllocError
reply_of verb (Ok answer) = Ok (Granted answer)
reply_of verb (Err (RejectedCommand why)) = Ok (Rejected verb why)
reply_of verb (Err (NoMemory error)) = Err error
