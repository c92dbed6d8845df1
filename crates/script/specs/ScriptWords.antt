-- A script as the words that write it, and which words are those of a script.
use Rattle.std.specs.Prelude.{◌≡◌, ℕ, ◌+◌, ◌%◌, ◌^◌, ◌<◌, ◌≤◌, List, [], ◌∷◌, ◌++◌, map, length, replicate, Ok, Err, Result}
use Rattle.std.specs.List.{AllByRecursion}
use Rattle.words.specs.declared.Kind.TheVariants.{Edition, Deadline, Budget, Spent, Rate, End}
use Rattle.words.specs.Words.{word, whole}
use Rattle.calls.specs.declared.call.Call.{Call}
use Rattle.calls.specs.declared.call.Call.TheVariants.{Release, Tick}
use Rattle.script.specs.declared.Script.{Script}
use Rattle.script.specs.declared.ScriptError.{ScriptError}
use Rattle.script.specs.declared.ScriptError.TheVariants.{WrongWord, NoMemory}
use Rattle.script.specs.Reading.{Contents}
use Rattle.script.specs.Scripts.{contents}

-- What a script asks for at a time: a release by its deadline and budget, or some ticks.
pub data Item : Type 0 where
  a_release : ℕ → ℕ → Item
  some_ticks : ℕ → Item

-- A release is two words, and ticks are one.
abbrev pub item_words : List Item → List ℕ
item_words [] = []
item_words (a_release deadline budget ∷ items) = word Deadline deadline ∷ (word Budget budget ∷ item_words items)
item_words (some_ticks count ∷ items) = word Spent count ∷ item_words items

-- The calls that the items ask for, one a tick.
abbrev pub item_calls : List Item → List Call
item_calls [] = []
item_calls (a_release deadline budget ∷ items) = Release deadline budget ∷ item_calls items
item_calls (some_ticks count ∷ items) = replicate count Tick ++ item_calls items

-- How many ticks they ask for in all.
abbrev pub ticks_in : List Item → ℕ
ticks_in [] = 0
ticks_in (a_release deadline budget ∷ items) = ticks_in items
ticks_in (some_ticks count ∷ items) = count + ticks_in items

-- The numbers of an item fit their words.
abbrev pub FitsWords : Item → Type 0
FitsWords (a_release deadline budget) = (deadline < 2 ^ 28) × (budget < 2 ^ 28)
FitsWords (some_ticks count) = count < 2 ^ 28

-- The words behind the rates: the items, and the end, which counts the tape behind it.
abbrev pub words_behind_rates : List Item → List ℕ → List ℕ
words_behind_rates items tape = item_words items ++ (word End (length tape) ∷ tape)

-- The words of a script: edition 1, a word for each rate, the items, the end and the tape; at most 1,000,000 ticks in all.
pub record WordsOf (words : List ℕ) (c : Contents) : Type 0 where
  pub items : List Item
  pub same_words : words ≡ word Edition 1 ∷ (map (word Rate) c.rates ++ words_behind_rates items c.tape)
  pub same_calls : c.calls ≡ item_calls items
  pub rates_fit : AllByRecursion (λ rate. rate < 2 ^ 28) c.rates
  pub items_fit : AllByRecursion FitsWords items
  pub tape_fits : length c.tape < 2 ^ 28
  pub few_ticks : ticks_in items ≤ 1000000

-- Words are read exactly where they are the words of a script, and then as that script; refused words are those of none.
abbrev pub Written : List ℕ → Result Script ScriptError → Type 0
Written words (Ok script) = WordsOf words (contents script)
Written words (Err (WrongWord place)) = (c : Contents) → WordsOf words c → ⊥
Written words (Err NoMemory) = Unit {0}

-- Bytes are read exactly where they are the words of a script, four bytes a word and none left over, and then as that
-- script; refused bytes are those of none.
abbrev pub WrittenBytes : List ℕ → Result Script ScriptError → Type 0
WrittenBytes bytes (Ok script) = (length bytes % 4 ≡ 0) × WordsOf (whole bytes) (contents script)
WrittenBytes bytes (Err (WrongWord place)) = (c : Contents) → length bytes % 4 ≡ 0 → WordsOf (whole bytes) c → ⊥
WrittenBytes bytes (Err NoMemory) = Unit {0}
