-- What each reply line says.
use Rattle.std.specs.Prelude.{ℕ, List, ◌++◌, length, codes, string_bytes}
use Rattle.std.specs.List.{flat_map}
use Rattle.std.specs.Fmt.{decimal}
use Rattle.chart_format.specs.Reports.{chart_report}
use Rattle.chart_format.specs.Words.{layer_words, chart_words}
use Rattle.plan.specs.declared.closed.Status.{Status}
use Rattle.reader.specs.declared.file_index.Counts.{Counts}
use Rattle.protocol.specs.Verbs.{verb_word}
use Rattle.protocol.specs.Refusals.{any_refusal_number, any_refusal_words}
use Rattle.protocol.specs.declared.reply_line.Answer.{Answer}
use Rattle.protocol.specs.declared.reply_line.Answer.TheVariants.{Chart, Lattice, Name, Draft, Ends, File, Amend, Route, Regret, Floor}
use Rattle.protocol.specs.declared.reply_line.Answer.TheVariants.{Quickest, Level, Status as StatusAnswer, Close, Picture}
use Rattle.protocol.specs.declared.rejection.Rejection.{Rejection}
use Rattle.protocol.specs.declared.rejection.Rejection.TheVariants.{Refused, Fault, Unreadable, Unwritable, WrongState, Malformed}
use Rattle.protocol.specs.declared.reply_line.ReplyLine.{ReplyLine}
use Rattle.protocol.specs.declared.reply_line.ReplyLine.TheVariants.{Granted, Rejected, Unknown}

-- a number after a space
abbrev pub spaced : ℕ → List ℕ
spaced k = codes " " ++ decimal k

-- numbers, each after a space
abbrev pub list_text : List ℕ → List ℕ
list_text ks = flat_map spaced ks

-- the numbers of fixes and legs of a chart
abbrev pub counts_text : Counts → List ℕ
counts_text counts = decimal counts.fixes ++ codes " fixes " ++ decimal counts.legs ++ codes " legs"

-- what a plan tells of itself
abbrev pub status_text : Status → List ℕ
status_text s = codes "revision " ++ decimal s.revision ++ codes " amended " ++ decimal s.amended
    ++ codes " from " ++ decimal s.ends.from ++ codes " to " ++ decimal s.ends.to

-- the reply to a command that is granted
abbrev pub answer_text : Answer → List ℕ
answer_text (Chart counts) = codes "chart " ++ counts_text counts
answer_text (Lattice counts) = codes "lattice " ++ counts_text counts
answer_text (Name text place) = codes "name " ++ text.bytes ++ codes " at " ++ decimal place
answer_text (Draft plan) = codes "draft " ++ decimal plan
answer_text (Ends ends) = codes "ends " ++ decimal ends.from ++ codes " " ++ decimal ends.to
answer_text (File revision) = codes "file revision " ++ decimal revision
answer_text (Amend revision) = codes "amend granted " ++ decimal revision
answer_text (Route regret legs) = codes "route regret " ++ decimal regret ++ codes " legs" ++ list_text legs.items
answer_text (Regret seconds) = codes "regret " ++ decimal seconds
answer_text (Floor seconds) = codes "floor " ++ decimal seconds
answer_text (Quickest flown) = codes "quickest " ++ decimal flown.seconds ++ codes " seconds "
    ++ decimal flown.legs ++ codes " legs"
answer_text (Level level) = codes "level " ++ decimal level
answer_text (StatusAnswer status) = codes "status " ++ status_text status
answer_text Close = codes "close"
answer_text (Picture svg) = codes "picture " ++ decimal (length (string_bytes svg)) ++ codes " bytes"

-- the reply to a command that is rejected, after its first word
abbrev pub rejection_text : Rejection → List ℕ
rejection_text (Refused refusal) = codes "refused " ++ decimal (any_refusal_number refusal) ++ codes ": "
    ++ any_refusal_words refusal
rejection_text (Fault fault) = codes "fault " ++ decimal (chart_report fault).number
    ++ codes " " ++ layer_words (chart_report fault).layer ++ codes " " ++ decimal (chart_report fault).place
    ++ codes ": " ++ chart_words fault
rejection_text (Unreadable path) = codes "unreadable " ++ path.now
rejection_text (Unwritable path) = codes "unwritable " ++ path.now
rejection_text WrongState = codes "out of turn"
rejection_text Malformed = codes "malformed"

-- the reply to a line that is no comment
abbrev pub reply_line_text : ReplyLine → List ℕ
reply_line_text (Granted answer) = answer_text answer
reply_line_text (Rejected verb why) = verb_word verb ++ codes " " ++ rejection_text why
reply_line_text Unknown = codes "unknown command"
