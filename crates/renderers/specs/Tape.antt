-- What a tape of words answers.
use Rattle.std.specs.Prelude.{◌≡◌, ℕ, ◌%◌, ◌^◌, ◌<◌, cond, List, [], ◌∷◌, length, drop, slice_index_or}
use Rattle.words.specs.Words.{is, payload}
use Rattle.words.specs.declared.Kind.TheVariants as kind
use Rattle.renderers.specs.declared.answer.Answer.{Answer}
use Rattle.renderers.specs.declared.answer.Answer.TheVariants.{Running, Finished, Failed}

-- What one word says: kind A finished, kind C failed with the payload's remainder by 65,536 as its code, any other running.
abbrev pub said : ℕ → Answer
said word =
    cond (is kind.Finished word) Finished
    (cond (is kind.Failed word) (Failed (payload word % 2 ^ 16)) Running)

-- What a tape says whose next words are these: past the end it is running.
abbrev pub next : List ℕ → Answer
next [] = Running
next (word ∷ words) = said word

-- One request takes the next word off the tape and answers what it says.
abbrev pub Read : List ℕ → Answer → List ℕ → Type 0
Read before answer after = (answer ≡ next before) × (after ≡ drop 1 before)

-- The answers to requests one after another, on a tape whose next words are these before the first and those after the last.
abbrev pub InTurn : List ℕ → List Answer → List ℕ → Type 0
InTurn before [] after = after ≡ before
InTurn before (answer ∷ answers) after = (between : List ℕ) × Read before answer between × InTurn between answers after

-- What the n-th word answers, counted from 0.
abbrev pub taped : List ℕ → ℕ → Answer
taped words n = next (drop n words)

-- However many requests there are, the n-th is answered by the n-th word.
abbrev pub EachByItsWord : List ℕ → Type 0
EachByItsWord words =
    (answers : List Answer) (after : List ℕ) → InTurn words answers after → (n : ℕ) → n < length answers → slice_index_or answers n Running ≡ taped words n
