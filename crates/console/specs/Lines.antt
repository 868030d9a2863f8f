-- What is replied to a line of a script, what the session is after it, and what is fetched and stored for it.
use Rattle.std.specs.Prelude.{◌≡◌, ℕ, ◌⊎◌, List, ⊤, Bool, true, false, string_bytes, String, Some, None, Option, Ok, Err, Result}
use Rattle.std.specs.Borrow.{Bor}
use Rattle.std.specs.declared.alloc.AllocError.{AllocError}
use Rattle.std.specs.declared.alloc.Global.{Global}
use Rattle.protocol.specs.declared.command.Verb.{Verb}
use Rattle.protocol.specs.declared.command.Verb.TheVariants.{Picture}
use Rattle.protocol.specs.declared.command.Command.{Command}
use Rattle.protocol.specs.declared.command.Command.TheVariants as command
use Rattle.protocol.specs.declared.command.Line.{Line}
use Rattle.protocol.specs.declared.command.Line.TheVariants as line
use Rattle.protocol.specs.declared.rejection.CommandError.{CommandError}
use Rattle.protocol.specs.declared.rejection.Rejection.TheVariants.{Malformed, Unwritable}
use Rattle.protocol.specs.declared.reply_line.Answer.{Answer}
use Rattle.protocol.specs.declared.reply_line.Answer.TheVariants as answer
use Rattle.protocol.specs.declared.reply_line.ReplyLine.{ReplyLine}
use Rattle.protocol.specs.declared.reply_line.ReplyLine.TheVariants as reply
use Rattle.protocol.specs.Replies.{reply_of}
use Rattle.console.specs.Models.{SessionModel}
use Rattle.console.specs.Steps.{IsSessionStep}

-- what comes of a line: its reply, none for a comment, or want of memory
abbrev pub LineResult : Type 0
LineResult = Result (Option ReplyLine) AllocError

-- the reply of a command with this verb, from what came of it; there is always one, unless there is no memory
abbrev pub IsReplyOf : Verb → Result Answer CommandError → LineResult → Type 0
IsReplyOf verb outcome (Ok (Some reply)) = Ok reply ≡ reply_of verb outcome
IsReplyOf verb outcome (Err e) = Err e ≡ reply_of verb outcome
IsReplyOf verb outcome (Ok None) = ⊥

-- the session has its step by the command, with the file that was fetched for it, and what came of it is replied
pub record RepliesToCommand (s : SessionModel) (verb : Verb) (command : Command) (file : Option (List ℕ)) (result : LineResult)
    (s' : SessionModel) : Type 0 where
  pub outcome : Result Answer CommandError
  pub step : IsSessionStep s command file outcome s'
  pub reply : IsReplyOf verb outcome result

-- A comment has no reply, and a line that is no command is replied to without a step; `file` has the bytes that were fetched for
-- the line.
abbrev pub IsLineStep : SessionModel → Line → (file : Option (List ℕ)) → LineResult → SessionModel → Type 0
IsLineStep s line.Comment file result s' = (result ≡ Ok None) × (s' ≡ s)
IsLineStep s (line.Command verb command) file result s' = RepliesToCommand s verb command file result s'
IsLineStep s (line.Malformed verb) file result s' = (result ≡ Ok (Some (reply.Rejected verb Malformed))) × (s' ≡ s)
IsLineStep s line.Unknown file result s' = (result ≡ Ok (Some reply.Unknown)) × (s' ≡ s)

-- Files

-- what may be fetched for a path: the bytes of its file, or none where it can't be read
abbrev pub Fetches : Type 1
Fetches = (path : List ℕ) → (file : Option (List ℕ)) → Type 0

-- whether bytes may be stored as the file at a path
abbrev pub Stores : Type 1
Stores = (path bytes : List ℕ) → (stored : Bool) → Type 0

-- a chart command alone names a file that is fetched
abbrev pub NamesChartFile : Line → Type 0
NamesChartFile (line.Command verb (command.Chart path)) = ⊤
NamesChartFile _ = ⊥

-- it is the file that is fetched for the line, which is none where the line names none
abbrev pub IsFetchedFor : Fetches → Line → (file : Option (List ℕ)) → Type 0
IsFetchedFor fetches (line.Command verb (command.Chart path)) file = fetches path.now file
IsFetchedFor fetches _ file = file ≡ None

-- the path that a picture is to be stored at, which a picture command alone has
abbrev pub path_of_picture : Line → Option (Bor (List ℕ))
path_of_picture (line.Command verb (command.Picture number path)) = Some path
path_of_picture _ = None

-- the reply to a picture command that was granted, by whether its drawing could be stored
abbrev pub picture_reply : (path : Bor (List ℕ)) → (svg : String Global) → (stored : Bool) → ReplyLine
picture_reply path svg true = reply.Granted (answer.Picture svg)
picture_reply path svg false = reply.Rejected Picture (Unwritable path)

-- A drawing that is granted is stored at the path of its command, and rejected where this can't be done. Any other reply stays as it is.
abbrev pub IsReplyAfterStoring : Stores → (path : Option (Bor (List ℕ))) → (reply result : LineResult) → Type 0
IsReplyAfterStoring stores (Some path) (Ok (Some (reply.Granted (answer.Picture svg)))) result =
    (stored : Bool) × stores path.now (string_bytes svg) stored × (result ≡ Ok (Some (picture_reply path svg stored)))
IsReplyAfterStoring stores _ reply result = result ≡ reply

-- the session has its step by the line, with the file that is fetched for it, and a picture that the line asked for is stored
pub record StepsByLine (fetches : Fetches) (stores : Stores) (s : SessionModel) (line : Line) (result : LineResult) (s' : SessionModel) : Type 0 where
  pub file : Option (List ℕ)
  pub reply : LineResult
  pub fetched : IsFetchedFor fetches line file
  pub step : IsLineStep s line file reply s'
  pub stored : IsReplyAfterStoring stores (path_of_picture line) reply result

-- there is no memory for the file that the line names, and the session stays what it was
pub record HasNoMemoryForFile (s : SessionModel) (line : Line) (result : LineResult) (s' : SessionModel) : Type 0 where
  pub named : NamesChartFile line
  pub error : AllocError
  pub no_reply : result ≡ Err error
  pub stays : s' ≡ s

-- a line is taken where these may be fetched and stored
abbrev pub IsTakenLine : Fetches → Stores → SessionModel → Line → LineResult → SessionModel → Type 0
IsTakenLine fetches stores s line result s' = StepsByLine fetches stores s line result s' ⊎ HasNoMemoryForFile s line result s'
