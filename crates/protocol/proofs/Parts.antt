-- How the steps of taking a line apart pass on what they find.
use Rattle.std.proofs.Common.{◌≡◌, ◌≢◌, refl, ℕ, ◌+◌, ◌*◌, ◌<◌, List, [], ◌∷◌, ◌++◌, ◌-◌, ◌≤◌, length, take, drop, Result, Ok, Err, IsErrAnd, IfOk, ap, ◌∙◌, arith, below_more}
use Rattle.std.specs.Prelude.{⊤, Option, Some, None}
use Rattle.std.specs.Borrow.{Bor}
use Rattle.std.specs.Iterator.{Drains}
use Rattle.std.specs.Str.Iter.{split_whitespace_rest, split_whitespace_steps}
use Rattle.std.specs.declared.str.SplitWhitespace.{SplitWhitespace}
use Rattle.std.proofs.lemmas.List.{get_or_append_left, get_or_at, length-append, length-drop, take_all}
use Rattle.std.proofs.lemmas.Result.{err_from_is_err_and}
use Rattle.std.specs.declared.alloc.AllocError.{AllocError}
use Rattle.protocol.specs.declared.command.Line.{Line}
use Rattle.chart.specs.declared.interval.Interval.{Interval}
use Rattle.chart.specs.declared.interval.Step.{Step}
use Rattle.chart.specs.Grid.{step_at, no_step}
use Rattle.plan.specs.declared.amendment.Change.{Change}
use Rattle.plan.specs.declared.amendment.Change.TheVariants.{Close, Times, Restore}
use Rattle.protocol.specs.declared.parsing.ParseError.{ParseError}
use Rattle.protocol.specs.declared.parsing.ParseError.TheVariants.{Malformed as MalformedWords, NoMemory}
use Rattle.protocol.specs.declared.parsing.Malformed.{Malformed}
use Rattle.protocol.specs.declared.command.Verb.{Verb}
use Rattle.protocol.specs.declared.command.Verb.TheVariants.{Chart, Lattice, Name, Draft, Ends, File, Amend, Route, Regret, Floor, Quickest, Level, Status, Close as CloseVerb, Picture}
use Rattle.protocol.specs.declared.command.Command.{Command}
use Rattle.protocol.specs.Lines.{Words, word, dash, SaysTimes, SaysInterval, SaysStep, SaysSteps, SaysChange, SaysPlaces, SaysOfPlan, SaysCommand, SaysLine, IsWordsOf}
use Rattle.protocol.specs.internal.Parses.{Reads, Refutes, Parses, CollectsNumbers, CollectsList, SaysFirstSteps}
use Rattle.protocol.proofs.Cut.{IsCut}

-- the whole says nothing where a part of it says nothing
pub refutes_whole : {T U : Type 0} (says : T → Type 0) (whole : U → Type 0) (e : ParseError)
    → Refutes ⊤ says e → ((u : U) → whole u → (t : T) × says t) → Refutes ⊤ whole e
refutes_whole says whole MalformedWords never part = λ u w. never (part u w).0 (part u w).1
refutes_whole says whole (NoMemory _) never part = tt

-- the error of a part is that of the whole
pub passed_on : {T U : Type 0} (says : T → Type 0) (whole : U → Type 0) (e : ParseError) (r : Result U ParseError)
    → IsErrAnd r (λ x. x ≡ e) → Refutes ⊤ says e → ((u : U) → whole u → (t : T) × says t) → Parses ⊤ whole r
passed_on says whole e r same never part =
    let p = err_from_is_err_and r same in
    rw (p.1, p.2) (refutes_whole says whole e never part)

-- the whole is malformed where a part of it is
pub malformed_part : {T U : Type 0} (says : T → Type 0) (whole : U → Type 0) (e : Malformed) (r : Result U Malformed)
    → IsErrAnd r (λ x. x ≡ e) → ((t : T) → says t → ⊥) → ((u : U) → whole u → (t : T) × says t) → Reads whole r
malformed_part says whole e r same never part =
    rw (err_from_is_err_and r same).1 (λ u w. never (part u w).0 (part u w).1)

pub times_of_change : (words : Words) (change : Change) → length words ≡ 3 → SaysChange words change
    → (interval : Interval) × SaysTimes (word words 1) (word words 2) interval
times_of_change words Close three says = absurd (omega arith)
times_of_change words (Times interval) three says = (interval, says.2)
times_of_change words Restore three says = absurd (omega arith)

pub interval_cut : (text low high : List ℕ) → IsCut dash text low high → (r : Result Interval Malformed)
    → Reads (SaysTimes low high) r → Reads (SaysInterval text) r
interval_cut text low high k (Ok i) says = (k.found, rw (k.front_is, k.back_is) says)
interval_cut text low high k (Err e) never = λ i s. never i (rw (← k.front_is, ← k.back_is) s.1)

pub steps_more : (words : Words) (n : ℕ) (steps : List Step) (step : Step) → SaysFirstSteps words n steps
    → SaysStep (word words (3 * n)) (word words (3 * n + 1)) (word words (3 * n + 2)) step → SaysFirstSteps words (n + 1) (steps ++ step ∷ [])
steps_more words n steps step (len, says) new =
    let P : ℕ → Type 0 = λ k.
    SaysStep (word words (3 * k)) (word words (3 * k + 1)) (word words (3 * k + 2)) (step_at (steps ++ step ∷ []) k) in
    let old : (k : ℕ) → k < n → P k = λ k below.
    rw (get_or_append_left steps (step ∷ []) no_step k (omega arith)) (says k below) in
    let last : P n = rw (get_or_at steps step [] no_step n len) new in
    (length-append steps (step ∷ []) ∙ ap (λ m. m + 1) len, below_more _ _ old last)

-- a list after its first k items, taken whole
pub all_after : {X : Type 0} (k n : ℕ) (xs : List X) → length xs - k ≤ n → take n (drop k xs) ≡ drop k xs
all_after k n xs many = take_all n (drop k xs) (rw (length-drop k xs) many)

pub steps_moved : (xs ys : Words) → xs ≡ ys → (steps : List Step) → SaysSteps xs steps → SaysSteps ys steps
steps_moved xs ys same steps says = rw (← same) says

-- a verb that begins no command of its own begins one of a plan
pub command_of_plan : (verb : Verb) (words : Words) (r : Result Command ParseError) → verb ≢ Chart
    → verb ≢ Lattice → verb ≢ Name → verb ≢ Picture → Parses (CollectsNumbers verb) (SaysOfPlan verb words) r
    → Parses (CollectsList verb) (SaysCommand verb words) r
command_of_plan Chart words r a b c d says = absurd (a refl)
command_of_plan Lattice words r a b c d says = absurd (b refl)
command_of_plan Name words r a b c d says = absurd (c refl)
command_of_plan Picture words r a b c d says = absurd (d refl)
command_of_plan Draft words r a b c d says = says
command_of_plan Ends words r a b c d says = says
command_of_plan File words r a b c d says = says
command_of_plan Amend words r a b c d says = says
command_of_plan Route words r a b c d says = says
command_of_plan Regret words r a b c d says = says
command_of_plan Floor words r a b c d says = says
command_of_plan Quickest words r a b c d says = says
command_of_plan Level words r a b c d says = says
command_of_plan Status words r a b c d says = says
command_of_plan CloseVerb words r a b c d says = says

pub line_said : (text : List ℕ) (words : Words) (r : Result Line AllocError) → IsWordsOf text words
    → IfOk r (SaysLine words) → IfOk r (λ said. (its : Words) × IsWordsOf text its × SaysLine its said)
line_said text words (Ok line) its says = (words, its, says)
line_said text words (Err e) its says = tt

-- the words of a text are its first one and those that are left then
pub words_from_first : (text : List ℕ) (s t : SplitWhitespace) (first : Bor (List ℕ)) (rest : Words) → split_whitespace_rest s ≡ text
    → split_whitespace_steps s (Some first) t → Drains split_whitespace_steps t rest → IsWordsOf text (first ∷ rest)
words_from_first text s t first rest is step (u, (v, yields, ends)) = (s, is, (v, (t, step, yields), λ _. (u, ends)))

-- a change is said in three words at most
change_is_short : (words : Words) (change : Change) → SaysChange words change → length words ≤ 3
change_is_short words Close says = omega (arith, says.0)
change_is_short words (Times interval) says = omega (arith, says.0)
change_is_short words Restore says = omega (arith, says.0)

-- places are said in one word at most
places_are_few : (words : Words) (places : Option ℕ) → SaysPlaces words places → length words ≤ 1
places_are_few words None says = omega (arith, says)
places_are_few words (Some places) says = omega (arith, says.0)

-- more than six words after a verb that takes no list say nothing
pub too_many_words : (verb : Verb) (words : Words) → (CollectsList verb → ⊥) → 6 < length words → (command : Command) → SaysCommand verb words command → ⊥
too_many_words Chart words other more command says = let n = says.1 in omega arith
too_many_words Lattice words other more command says = other tt
too_many_words Name words other more command says = let n = says.1 in omega arith
too_many_words Picture words other more command says = let n = says.2 in omega arith
too_many_words Draft words other more command says = let n = says.4.0 in omega (arith, length-drop 1 words)
too_many_words Ends words other more command says = let n = says.4.1.0 in omega (arith, length-drop 1 words)
too_many_words File words other more command says = let n = says.4.0 in omega (arith, length-drop 1 words)
too_many_words Amend words other more command says =
    let n = change_is_short (drop 2 (drop 1 words)) says.4.0.change says.4.1.3 in
    omega (arith, length-drop 2 (drop 1 words), length-drop 1 words)
too_many_words Route words other more command says = let n = places_are_few (drop 1 words) says.4.0 says.4.1 in omega (arith, length-drop 1 words)
too_many_words Regret words other more command says = other tt
too_many_words Floor words other more command says = other tt
too_many_words Quickest words other more command says = let n = says.4.0 in omega (arith, length-drop 1 words)
too_many_words Level words other more command says = let n = says.4.0 in omega (arith, length-drop 1 words)
too_many_words Status words other more command says = let n = says.4.0 in omega (arith, length-drop 1 words)
too_many_words CloseVerb words other more command says = let n = says.4.0 in omega (arith, length-drop 1 words)
