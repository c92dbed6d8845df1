-- How the words of a sheet are read: what they hold, or the fault at the earliest place.
use Rattle.std.specs.Prelude.{ℕ, ◌+◌, ◌-◌, cond, List, [], ◌∷◌, ◌++◌, length, Some, None, Ok, Err, Result, ◌==◌, nat_lt}
use Rattle.words.specs.declared.Kind.TheVariants.{Release, Deadline, Budget, Spent, End}
use Rattle.words.specs.Words.{is, payload}
use Rattle.heading.specs.Heading.{Front, head}
use Rattle.rates.specs.Judged.{judged}
use Rattle.cues.specs.Cues.{cue_refusal}
use Rattle.words.specs.declared.fault.WordFault.{WordFault}
use Rattle.words.specs.declared.fault.WordFault.TheVariants.{Misplaced, EndsEarly}
use Rattle.faults.specs.declared.CueFault.TheVariants.{BadWord as cue_word, Refused}
use Rattle.faults.specs.declared.SheetFault.{SheetFault}
use Rattle.faults.specs.declared.SheetFault.TheVariants.{BadWord as sheet_word, BadCue, BadTable, TooManyCues}

-- The four numbers of a cue, as a sheet has them.
pub record Entry : Type 0 where
  pub release : ℕ
  pub deadline : ℕ
  pub budget : ℕ
  pub actual : ℕ

-- What a sheet holds: the rates of its table, and its cues.
pub record Contents : Type 0 where
  pub rates : List ℕ
  pub entries : List Entry

abbrev pub Reading : Type 0
Reading = Result Contents SheetFault

-- How much of a cue is read: none of it, or its release, deadline and budget in this order.
pub data Part : Type 0 where
  none : Part
  released : ℕ → Part
  due : ℕ → ℕ → Part
  budgeted : ℕ → ℕ → ℕ → Part

-- How many words of the cue that is.
abbrev pub words_in : Part → ℕ
words_in none = 0
words_in (released r) = 1
words_in (due r d) = 2
words_in (budgeted r d b) = 3

-- A wrong word at a place in the cues.
abbrev pub wrong : ℕ → Part → WordFault → Reading
wrong place part fault = Err (BadCue (place - words_in part) (cue_word place fault))

-- The end word: it counts the cues, and no word comes after it.
abbrev pub after_end : ℕ → Contents → List ℕ → Reading
after_end place contents [] = Ok contents
after_end place contents (w ∷ ws) = Err (sheet_word place Misplaced)

abbrev pub ended : ℕ → Contents → ℕ → List ℕ → Reading
ended place contents w ws =
    cond (payload w == length contents.entries) (after_end (place + 1) contents ws) (Err (sheet_word place Misplaced))

-- A cue whose four words are there is judged: by its budget and deadline, and then by the number of cues before it.
-- `first` is the place of its first word, and `taken` what is read where it is taken.
abbrev pub cue_taken : ℕ → List Entry → Entry → Reading → Reading
cue_taken first before e taken =
    elim (cue_refusal e.release e.deadline e.budget) [
      | Some refusal ↦ Err (BadCue first (Refused refusal))
      | None ↦ cond (nat_lt (length before) 1024) taken (Err (TooManyCues first))
    ]

-- The words from a place in the cues on, one at a time, after the rates and the cues before, and a part of the next one.
abbrev pub cues_from : ℕ → List ℕ → List Entry → Part → List ℕ → Reading
cues_from place rates before part [] = wrong place part EndsEarly
cues_from place rates before none (w ∷ ws) =
    cond (is End w) (ended place (record { rates = rates; entries = before }) w ws)
    (cond (is Release w) (cues_from (place + 1) rates before (released (payload w)) ws) (wrong place none Misplaced))
cues_from place rates before (released r) (w ∷ ws) =
    cond (is Deadline w) (cues_from (place + 1) rates before (due r (payload w)) ws) (wrong place (released r) Misplaced)
cues_from place rates before (due r d) (w ∷ ws) =
    cond (is Budget w) (cues_from (place + 1) rates before (budgeted r d (payload w)) ws) (wrong place (due r d) Misplaced)
cues_from place rates before (budgeted r d b) (w ∷ ws) =
    cond (is Spent w)
    (cue_taken (place - 3) before (record { release = r; deadline = d; budget = b; actual = payload w })
    (cues_from (place + 1) rates (before ++ (record { release = r; deadline = d; budget = b; actual = payload w } ∷ [])) none ws))
    (wrong place (budgeted r d b) Misplaced)

-- The table is judged once a word of another kind follows its last rate.
abbrev pub table_judged : ℕ → List ℕ → List ℕ → Reading
table_judged place rates [] = Err (sheet_word place EndsEarly)
table_judged place rates (w ∷ ws) =
    elim (judged rates) [ Some refusal ↦ Err (BadTable refusal) | None ↦ cues_from place rates [] none (w ∷ ws) ]

-- What is read behind the head: the table, the cues and the end.
abbrev pub behind_head : Result Front WordFault → Reading
behind_head (Ok front) = table_judged (1 + length front.rates) front.rates front.rest
behind_head (Err fault) = Err (sheet_word 0 fault)

-- The words of a whole sheet: the edition, the table, the cues and the end.
abbrev pub reading : List ℕ → Reading
reading words = behind_head (head words)
