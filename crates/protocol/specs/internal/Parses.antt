-- What a step of taking a line apart gives.
use Rattle.std.specs.Prelude.{◌≡◌, ℕ, ◌+◌, ◌*◌, ◌<◌, List, length, slice_index, ⊤, Result, MatchResult}
use Rattle.chart.specs.declared.interval.Step.{Step}
use Rattle.chart.specs.Grid.{step_at}
use Rattle.protocol.specs.Verbs.{verb_word}
use Rattle.protocol.specs.declared.command.Verb.{Verb}
use Rattle.protocol.specs.declared.command.Verb.TheVariants.{Lattice, Regret, Floor}
use Rattle.protocol.specs.Lines.{Words, word, SaysNumber, SaysStep}
use Rattle.protocol.specs.declared.parsing.ParseError.{ParseError}
use Rattle.protocol.specs.declared.parsing.ParseError.TheVariants.{Malformed as MalformedWords, NoMemory}
use Rattle.protocol.specs.declared.parsing.Malformed.{Malformed}

-- the code of '+'
abbrev pub plus : ℕ
plus = 43

-- what is given is what the words say, and they are malformed only where they say nothing
abbrev pub Reads : {T : Type 0} → (T → Type 0) → Result T Malformed → Type 0
Reads says result = MatchResult result says (λ _. (said : _) → says said → ⊥)

-- words are malformed only where they say nothing, and there is no memory for them only where they may want some
abbrev pub Refutes : {T : Type 0} → Type 0 → (T → Type 0) → ParseError → Type 0
Refutes may_want says MalformedWords = (said : _) → says said → ⊥
Refutes may_want says (NoMemory _) = may_want

-- what is given is what the words say, and nothing is given only for such a reason
abbrev pub Parses : {T : Type 0} → Type 0 → (T → Type 0) → Result T ParseError → Type 0
Parses may_want says result = MatchResult result says (Refutes may_want says)

-- the verbs of a plan's commands whose words are collected into a list
abbrev pub CollectsNumbers : Verb → Type 0
CollectsNumbers Regret = ⊤
CollectsNumbers Floor = ⊤
CollectsNumbers _ = ⊥

-- the verbs whose words are collected into a list
abbrev pub CollectsList : Verb → Type 0
CollectsList Lattice = ⊤
CollectsList verb = CollectsNumbers verb

-- the first word is one of these verbs
abbrev pub HasListVerb : Words → Type 0
HasListVerb words = (verb : Verb) × (word words 0 ≡ verb_word verb) × CollectsList verb

-- the list has what the first n words say
abbrev pub SaysFirst : Words → ℕ → List ℕ → Type 0
SaysFirst words n list = (length list ≡ n) × ((k : ℕ) → k < n → SaysNumber 16 (word words k) (slice_index list k))

-- the steps have what the first 3 · n words say
abbrev pub SaysFirstSteps : Words → ℕ → List Step → Type 0
SaysFirstSteps words n steps = (length steps ≡ n) × ((k : ℕ) → k < n
    → SaysStep (word words (3 * k)) (word words (3 * k + 1)) (word words (3 * k + 2)) (step_at steps k))
