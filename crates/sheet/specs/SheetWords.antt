-- A sheet as the words that write it, and which sheets are sound.
use Rattle.std.specs.Prelude.{◌≡◌, ℕ, ◌%◌, ◌^◌, ◌<◌, ◌≤◌, List, [], ◌∷◌, ◌++◌, map, length, Ok, Err, Result}
use Rattle.std.specs.List.{AllByRecursion}
use Rattle.words.specs.declared.Kind.TheVariants.{Edition, Release, Deadline, Budget, Spent, Rate, End}
use Rattle.words.specs.Words.{word, whole}
use Rattle.rates.specs.Lawful.{Lawful}
use Rattle.faults.specs.declared.ReadError.{ReadError}
use Rattle.faults.specs.declared.ReadError.TheVariants.{Fault, NoMemory}
use Rattle.sheet.specs.declared.read.ReadSheet.{ReadSheet}
use Rattle.sheet.specs.Reading.{Entry, Contents}
use Rattle.sheet.specs.Sheets.{contents}

-- Four words a cue: release, deadline, budget and actual units.
abbrev pub cue_words : List Entry → List ℕ
cue_words [] = []
cue_words (e ∷ es) =
    word Release e.release ∷ (word Deadline e.deadline ∷ (word Budget e.budget ∷ (word Spent e.actual ∷ cue_words es)))

-- The cues, and the end word, which counts them.
abbrev pub words_behind_table : Contents → List ℕ
words_behind_table c = cue_words c.entries ++ (word End (length c.entries) ∷ [])

-- The words of a sheet: edition 1, a word for each rate, the cues and the end.
abbrev pub sheet_words : Contents → List ℕ
sheet_words c = word Edition 1 ∷ (map (word Rate) c.rates ++ words_behind_table c)

-- A sound cue: a budget of 1 to 65,535, a deadline after the release and at most 134,217,727, and actual units that fit a word.
pub record SoundCue (e : Entry) : Type 0 where
  pub some_work : 1 ≤ e.budget
  pub little_work : e.budget ≤ 65535
  pub rising : e.release < e.deadline
  pub in_time : e.deadline ≤ 134217727
  pub fits : e.actual < 2 ^ 28

-- A sound sheet: a lawful table, and at most 1,024 cues, all of them sound.
pub record Sound (c : Contents) : Type 0 where
  pub table : Lawful c.rates
  pub cues : AllByRecursion SoundCue c.entries
  pub few : length c.entries ≤ 1024

-- Words are read exactly where they are the words of a sound sheet, and then as that sheet; refused words are those of none.
abbrev pub Written : List ℕ → Result ReadSheet ReadError → Type 0
Written words (Ok sheet) = (words ≡ sheet_words (contents sheet)) × Sound (contents sheet)
Written words (Err (Fault f)) = (c : Contents) → words ≡ sheet_words c → Sound c → ⊥
Written words (Err NoMemory) = Unit {0}

-- The same of bytes, four to a word and none left over.
abbrev pub WrittenBytes : List ℕ → Result ReadSheet ReadError → Type 0
WrittenBytes bytes (Ok sheet) = (length bytes % 4 ≡ 0) × (whole bytes ≡ sheet_words (contents sheet)) × Sound (contents sheet)
WrittenBytes bytes (Err (Fault f)) = (c : Contents) → length bytes % 4 ≡ 0 → whole bytes ≡ sheet_words c → Sound c → ⊥
WrittenBytes bytes (Err NoMemory) = Unit {0}
