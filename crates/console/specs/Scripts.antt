-- What a script makes of a session: its lines are taken one after the other.
use Rattle.std.specs.Prelude.{◌≡◌, ℕ, ◌<◌, List, [], ◌∷◌, length, Option, IfSome, Ok}
use Rattle.std.specs.Str.Lossy.{utf8_lossy}
use Rattle.std.specs.Io.BufRead.{first_piece, drop_through}
use Rattle.protocol.specs.declared.command.Line.{Line}
use Rattle.protocol.specs.declared.reply_line.ReplyLine.{ReplyLine}
use Rattle.protocol.specs.Lines.{Words, IsWordsOf, SaysLine}
use Rattle.console.specs.Models.{SessionModel}
use Rattle.console.specs.Lines.{Fetches, Stores, IsTakenLine}

-- the bytes of a line, or of a script
abbrev pub Bytes : Type 0
Bytes = List ℕ

-- what the bytes of a line say, once those that are no text have become the sign U+FFFD, which is in no verb and no number
abbrev pub BytesSayLine : Bytes → Line → Type 0
BytesSayLine bytes line = (words : Words) × IsWordsOf (utf8_lossy bytes) words × SaysLine words line

-- the byte that ends a line; the last line may have none
abbrev pub line_end : ℕ
line_end = 10

-- these are the first lines of a script, without their ends, and `rest` is what comes after them
unfoldable pub AreFirstLines : (lines : List Bytes) → (script rest : Bytes) → Type 0
AreFirstLines [] script rest = rest ≡ script
AreFirstLines (line ∷ more) script rest =
    (0 < length script) × (line ≡ first_piece line_end script) × AreFirstLines more (drop_through line_end script) rest

-- the session takes lines in their order, each by what its bytes say, and has memory for each
unfoldable pub TakesLines : Fetches → Stores → SessionModel → (lines : List Bytes) → SessionModel → Type 0
TakesLines fetches stores s [] s' = s' ≡ s
TakesLines fetches stores s (bytes ∷ more) s' = (line : Line) × (reply : Option ReplyLine) × (t : SessionModel)
    × BytesSayLine bytes line × IsTakenLine fetches stores s line (Ok reply) t × TakesLines fetches stores t more s'

-- The session takes the lines of a script, up to those in `rest`. Where the bytes of the script are not known, it takes some lines.
pub record TakesScript (fetches : Fetches) (stores : Stores) (s : SessionModel) (script : Option Bytes) (rest : Bytes) (s' : SessionModel) : Type 0 where
  pub lines : List Bytes
  pub first : IfSome script (λ bytes. AreFirstLines lines bytes rest)
  pub taken : TakesLines fetches stores s lines s'
