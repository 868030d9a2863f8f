-- Which line of a script says which command: the words of a line, and what they say.
use Rattle.std.specs.Prelude.{◌≡◌, ℕ, ◌+◌, ◌*◌, ◌^◌, ◌<◌, ◌≤◌, ◌==◌, ◌≢◌, ◌⊎◌, List, [], length, drop, slice_index, slice_index_or, codes}
use Rattle.std.specs.Prelude.{Contains, Option, Some, None, ⊤}
use Rattle.std.specs.Borrow.{Bor}
use Rattle.std.specs.Iterator.{DrainsIf}
use Rattle.std.specs.List.{before_first, after_first}
use Rattle.std.specs.Str.Iter.{split_whitespace_rest, split_whitespace_steps}
use Rattle.std.specs.Str.Parse.{IsNumeral, digits_value}
use Rattle.std.specs.declared.alloc.Global.{Global}
use Rattle.std.specs.declared.str.SplitWhitespace.{SplitWhitespace}
use Rattle.std.specs.declared.vec.Vec.{Vec}
use Rattle.chart.specs.declared.Ends.{Ends}
use Rattle.chart.specs.declared.interval.Interval.{Interval}
use Rattle.chart.specs.declared.interval.Step.{Step}
use Rattle.chart.specs.Grid.{turn_at, step_at}
use Rattle.plan.specs.declared.amendment.Amendment.{Amendment}
use Rattle.plan.specs.declared.amendment.Change.{Change}
use Rattle.plan.specs.declared.amendment.Change.TheVariants.{Close as CloseLeg, Times, Restore}
use Rattle.protocol.specs.Verbs.{verb_word}
use Rattle.protocol.specs.declared.command.Verb.{Verb}
use Rattle.protocol.specs.declared.command.Verb.TheVariants.{Chart, Lattice, Name, Draft, Ends as EndsVerb, File, Amend, Route, Regret}
use Rattle.protocol.specs.declared.command.Verb.TheVariants.{Floor, Quickest, Level, Status, Close, Picture}
use Rattle.protocol.specs.declared.command.LatticeRequest.{LatticeRequest}
use Rattle.protocol.specs.declared.command.PlanCall.TheVariants.{Amend as AmendCall, Route as RouteCall, Regret as RegretCall}
use Rattle.protocol.specs.declared.command.PlanCall.TheVariants.{Floor as FloorCall, Quickest as QuickestCall, Level as LevelCall}
use Rattle.protocol.specs.declared.command.PlanCall.TheVariants.{Status as StatusCall}
use Rattle.protocol.specs.declared.command.PlanCommand.{PlanCommand}
use Rattle.protocol.specs.declared.command.PlanCommand.TheVariants.{Draft as DraftPlan, Ends as SetEnds, File as FilePlan, Call, Close as ClosePlan}
use Rattle.protocol.specs.declared.command.Command.{Command}
use Rattle.protocol.specs.declared.command.Command.TheVariants.{Chart as ReadChart, Lattice as MakeLattice, Name as AskName, Plan}
use Rattle.protocol.specs.declared.command.Command.TheVariants.{Picture as DrawPicture}
use Rattle.protocol.specs.declared.command.Line.{Line}
use Rattle.protocol.specs.declared.command.Line.TheVariants.{Comment, Command as CommandLine, Malformed, Unknown}

-- ---- words

abbrev pub Words : Type 0
Words = List (Bor (List ℕ))

-- what `split_whitespace` gives of a line
abbrev pub IsWordsOf : List ℕ → Words → Type 0
IsWordsOf line words = (it : SplitWhitespace) × (split_whitespace_rest it ≡ line)
    × DrainsIf split_whitespace_steps ⊤ it words

-- the text of the word at a place, from 0 on; no text past the last word
abbrev pub word : Words → ℕ → List ℕ
word words k = (slice_index_or words k (record { ref_ptr = (0, 0); now = [] })).now

-- the code of '-'
abbrev pub dash : ℕ
dash = 45

-- the code of '#'
abbrev pub hash : ℕ
hash = 35

-- ---- numbers

-- a text in decimal digits alone, one at least, is this number, which has so many bits
abbrev pub SaysNumber : ℕ → List ℕ → ℕ → Type 0
SaysNumber bits text n = IsNumeral 10 text × (digits_value 10 text ≡ n) × (n < 2 ^ bits)

-- as many numbers as words, each of 16 bits
abbrev pub SaysNumbers : Words → List ℕ → Type 0
SaysNumbers words list = (length words ≡ length list)
    × ((k : ℕ) → k < length list → SaysNumber 16 (word words k) (slice_index list k))

-- seconds, the low time and the high time
abbrev pub SaysTimes : List ℕ → List ℕ → Interval → Type 0
SaysTimes low high interval = SaysNumber 32 low interval.low × SaysNumber 32 high interval.high

-- LOW-HIGH, with the first dash between them
abbrev pub SaysInterval : List ℕ → Interval → Type 0
SaysInterval text interval = Contains text dash
    × SaysTimes (before_first (λ code. code == dash) text) (after_first (λ code. code == dash) text) interval

-- three intervals, in the order of the turns −1, 0, +1
abbrev pub SaysStep : List ℕ → List ℕ → List ℕ → Step → Type 0
SaysStep row_before same_row row_after step =
    SaysInterval row_before (turn_at step 0) × SaysInterval same_row (turn_at step 1) × SaysInterval row_after (turn_at step 2)

-- three words for each step
abbrev pub SaysSteps : Words → List Step → Type 0
SaysSteps words steps = (length words ≡ 3 * length steps) × ((k : ℕ) → k < length steps
    → SaysStep (word words (3 * k)) (word words (3 * k + 1)) (word words (3 * k + 2)) (step_at steps k))

-- ---- commands: what the words after a verb say

-- ROWS COLUMNS TOP LOW-HIGH LOW-HIGH LOW-HIGH …
abbrev pub SaysLattice : Words → LatticeRequest → Type 0
SaysLattice words request = (3 ≤ length words) × SaysNumber 16 (word words 0) request.rows
    × SaysNumber 16 (word words 1) request.columns × SaysNumber 16 (word words 2) request.top
    × SaysSteps (drop 3 words) request.steps.items

-- DEPARTURE DESTINATION
abbrev pub SaysEnds : Words → Ends → Type 0
SaysEnds words ends = (length words ≡ 2) × SaysNumber 16 (word words 0) ends.from × SaysNumber 16 (word words 1) ends.to

-- close, times LOW HIGH, or restore
abbrev pub SaysChange : Words → Change → Type 0
SaysChange words CloseLeg = (length words ≡ 1) × (word words 0 ≡ codes "close")
SaysChange words (Times interval) = (length words ≡ 3) × (word words 0 ≡ codes "times")
    × SaysTimes (word words 1) (word words 2) interval
SaysChange words Restore = (length words ≡ 1) × (word words 0 ≡ codes "restore")

-- REVISION LEG and the change
abbrev pub SaysAmendment : Words → Amendment → Type 0
SaysAmendment words amendment = (2 ≤ length words) × SaysNumber 16 (word words 0) amendment.revision
    × SaysNumber 16 (word words 1) amendment.leg × SaysChange (drop 2 words) amendment.change

-- [PLACES]
abbrev pub SaysPlaces : Words → Option ℕ → Type 0
SaysPlaces words None = length words ≡ 0
SaysPlaces words (Some places) = (length words ≡ 1) × SaysNumber 16 (word words 0) places

-- what the words after PLAN say
abbrev pub SaysPlanCommand : Verb → Words → PlanCommand → Type 0
SaysPlanCommand Draft words command = (length words ≡ 0) × (command ≡ DraftPlan)
SaysPlanCommand EndsVerb words command = (ends : Ends) × SaysEnds words ends × (command ≡ SetEnds ends)
SaysPlanCommand File words command = (length words ≡ 0) × (command ≡ FilePlan)
SaysPlanCommand Amend words command =
    (amendment : Amendment) × SaysAmendment words amendment × (command ≡ Call (AmendCall amendment))
SaysPlanCommand Route words command =
    (places : Option ℕ) × SaysPlaces words places × (command ≡ Call (RouteCall places))
SaysPlanCommand Regret words command =
    (list : Vec ℕ Global) × SaysNumbers words list.items × (command ≡ Call (RegretCall list))
SaysPlanCommand Floor words command =
    (list : Vec ℕ Global) × SaysNumbers words list.items × (command ≡ Call (FloorCall list))
SaysPlanCommand Quickest words command = (length words ≡ 0) × (command ≡ Call QuickestCall)
SaysPlanCommand Level words command = (length words ≡ 0) × (command ≡ Call LevelCall)
SaysPlanCommand Status words command = (length words ≡ 0) × (command ≡ Call StatusCall)
SaysPlanCommand Close words command = (length words ≡ 0) × (command ≡ ClosePlan)
SaysPlanCommand _ words command = ⊥

-- PLAN, and what is asked of it
abbrev pub SaysOfPlan : Verb → Words → Command → Type 0
SaysOfPlan verb words command = (plan : ℕ) × (asked : PlanCommand) × (1 ≤ length words)
    × SaysNumber 16 (word words 0) plan × SaysPlanCommand verb (drop 1 words) asked × (command ≡ Plan plan asked)

-- what the words after the verb say
abbrev pub SaysCommand : Verb → Words → Command → Type 0
SaysCommand Chart words command =
    (path : Bor (List ℕ)) × (length words ≡ 1) × (word words 0 ≡ path.now) × (command ≡ ReadChart path)
SaysCommand Lattice words command =
    (request : LatticeRequest) × SaysLattice words request × (command ≡ MakeLattice request)
SaysCommand Name words command =
    (fix : ℕ) × (length words ≡ 1) × SaysNumber 16 (word words 0) fix × (command ≡ AskName fix)
SaysCommand Picture words command =
    (plan : ℕ) × (path : Bor (List ℕ)) × (length words ≡ 2) × SaysNumber 16 (word words 0) plan
    × (word words 1 ≡ path.now) × (command ≡ DrawPicture plan path)
SaysCommand verb words command = SaysOfPlan verb words command

-- ---- lines

-- no words, or the first begins with '#'
abbrev pub IsComment : Words → Type 0
IsComment words = (length words ≡ 0) ⊎ (slice_index (word words 0) 0 ≡ hash)

-- what the words of a line say
abbrev pub SaysLine : Words → Line → Type 0
SaysLine words Comment = IsComment words
SaysLine words Unknown = (IsComment words → ⊥) × ((verb : Verb) → word words 0 ≢ verb_word verb)
SaysLine words (Malformed verb) =
    (word words 0 ≡ verb_word verb) × ((command : Command) → SaysCommand verb (drop 1 words) command → ⊥)
SaysLine words (CommandLine verb command) = (word words 0 ≡ verb_word verb) × SaysCommand verb (drop 1 words) command
