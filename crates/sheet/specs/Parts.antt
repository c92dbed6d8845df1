-- What the reader finds part by part, said by what the whole sheet reads as from there on.
use Rattle.std.specs.Prelude.{◌≡◌, ℕ, ◌+◌, ◌<◌, ◌≤◌, true, false, cond, List, [], ◌∷◌, ◌++◌, map, length, drop, Some, None, Ok, Err, Option, Result, nat_lt}
use Rattle.words.specs.declared.Kind.TheVariants.{End}
use Rattle.words.specs.Words.{begins}
use Rattle.heading.specs.declared.HeadError.{HeadError}
use Rattle.heading.specs.declared.HeadError.TheVariants.{FirstWord, NoMemory as no_head_memory}
use Rattle.rates.specs.declared.table.RateTable.{RateTable}
use Rattle.rates.specs.Table.{rates_of}
use Rattle.cues.specs.declared.cue.Cue.{Cue}
use Rattle.words.specs.declared.fault.WordFault.{WordFault}
use Rattle.faults.specs.declared.CueFault.{CueFault}
use Rattle.faults.specs.declared.CueFault.TheVariants.{BadWord as cue_word}
use Rattle.faults.specs.declared.SheetFault.TheVariants.{BadWord as sheet_word, BadCue, TooManyCues}
use Rattle.faults.specs.declared.SheetFault.{SheetFault}
use Rattle.faults.specs.declared.ReadError.{ReadError}
use Rattle.faults.specs.declared.ReadError.TheVariants.{Fault, NoMemory}
use Rattle.cues.specs.declared.list.CueList.{CueList}
use Rattle.cues.specs.declared.refusal.ListRefusal.{ListRefusal}
use Rattle.cues.specs.declared.refusal.ListRefusal.TheVariants.{Full, NoMemory as no_memory}
use Rattle.cues.specs.CueLists.{cues_of}
use Rattle.sheet.specs.Reading.{Entry, Contents, Reading, none, cues_from, cue_taken, table_judged, reading}

-- The four numbers of a cue.
abbrev pub entry_of : Cue → Entry
entry_of c = record { release = c.release; deadline = c.deadline; budget = c.budget; actual = c.actual }

-- What is read from here on where the four words of a cue, or the first wrong word, are these.
abbrev pub after_words : ℕ → List ℕ → List Entry → List ℕ → Result (ℕ × ℕ × ℕ × ℕ) (ℕ × WordFault) → Reading
after_words place rates before ws (Ok p) =
    cue_taken place before (record { release = p.0; deadline = p.1; budget = p.2; actual = p.3 })
    (cues_from (place + 4) rates (before ++ (record { release = p.0; deadline = p.1; budget = p.2; actual = p.3 } ∷ [])) none (drop 4 ws))
after_words place rates before ws (Err e) = Err (BadCue place (cue_word e.0 e.1))

-- The four words of a cue, or the first wrong word, where no end word stands.
abbrev pub Four : List ℕ → Result (ℕ × ℕ × ℕ × ℕ) (ℕ × WordFault) → Type 0
Four ws (Ok p) = 4 ≤ length ws
Four ws (Err e) = Unit {0}

abbrev pub CueWords : ℕ → List ℕ → Result (ℕ × ℕ × ℕ × ℕ) (ℕ × WordFault) → Type 0
CueWords place ws r =
    Four ws r
    × (begins End ws ≡ false → (rates : List ℕ) (before : List Entry) → cues_from place rates before none ws ≡ after_words place rates before ws r)

-- The cue that four words make, or what is wrong with it, where no end word stands.
abbrev pub CueHere : ℕ → List ℕ → Result Cue CueFault → Type 0
CueHere place ws (Ok c) =
    (4 ≤ length ws)
    × (begins End ws ≡ false →
    (rates : List ℕ) (before : List Entry) →
    cues_from place rates before none ws
    ≡ cond (nat_lt (length before) 1024) (cues_from (place + 4) rates (before ++ (entry_of c ∷ [])) none (drop 4 ws)) (Err (TooManyCues place)))
CueHere place ws (Err f) =
    begins End ws ≡ false → (rates : List ℕ) (before : List Entry) → cues_from place rates before none ws ≡ Err (BadCue place f)

-- The next cue, the end word, or what is wrong with the next cue.
abbrev pub NextCue : ℕ → List ℕ → Result (Option Cue) SheetFault → Type 0
NextCue place ws (Ok None) = begins End ws ≡ true
NextCue place ws (Ok (Some c)) =
    (4 ≤ length ws)
    × ((rates : List ℕ) (before : List Entry) →
    cues_from place rates before none ws
    ≡ cond (nat_lt (length before) 1024) (cues_from (place + 4) rates (before ++ (entry_of c ∷ [])) none (drop 4 ws)) (Err (TooManyCues place)))
NextCue place ws (Err f) = (rates : List ℕ) (before : List Entry) → cues_from place rates before none ws ≡ Err f

-- What is read from the end word on.
abbrev pub after_end_word : Contents → Result Unit SheetFault → Reading
after_end_word contents (Ok u) = Ok contents
after_end_word contents (Err f) = Err f

abbrev pub EndWord : ℕ → ℕ → List ℕ → Result Unit SheetFault → Type 0
EndWord place count ws r =
    begins End ws ≡ true →
    (rates : List ℕ) (before : List Entry) →
    length before ≡ count →
    cues_from place rates before none ws ≡ after_end_word (record { rates = rates; entries = before }) r

-- The four numbers of each cue of a list.
abbrev pub entries_of : CueList → List Entry
entries_of list = map entry_of (cues_of list)

-- The cues from a place on are these, or the sheet has this fault; want of memory says nothing of the sheet.
abbrev pub Cues : ℕ → List ℕ → Result CueList ReadError → Type 0
Cues place ws (Ok list) = (rates : List ℕ) → cues_from place rates [] none ws ≡ Ok (record { rates = rates; entries = entries_of list })
Cues place ws (Err (Fault f)) = (rates : List ℕ) → cues_from place rates [] none ws ≡ Err f
Cues place ws (Err NoMemory) = Unit {0}

-- A full list has one cue too many; the want of memory is no fault of the sheet.
abbrev pub not_added : ListRefusal → ℕ → ReadError
not_added (Full most) place = Fault (TooManyCues place)
not_added no_memory place = NoMemory

-- A cue was added behind those before it, or was one too many.
abbrev pub Added : List Entry → Cue → ℕ → Result Unit ReadError → List Entry → Type 0
Added old cue place (Ok u) new = (length old < 1024) × (new ≡ old ++ (entry_of cue ∷ []))
Added old cue place (Err (Fault f)) new = (length old ≡ 1024) × (f ≡ TooManyCues place)
Added old cue place (Err NoMemory) new = Unit {0}

-- A sheet without a head has the fault of its first word; the want of memory is no fault of the sheet.
abbrev pub not_headed : HeadError → ReadError
not_headed (FirstWord fault) = Fault (sheet_word 0 fault)
not_headed no_head_memory = NoMemory

-- The table that these rates make in front of the words from a place on, or the fault that it has there.
abbrev pub Judged : List ℕ → ℕ → List ℕ → Result RateTable SheetFault → Type 0
Judged rates place ws (Ok table) = (rates_of table ≡ rates) × (table_judged place rates ws ≡ cues_from place rates [] none ws)
Judged rates place ws (Err f) = table_judged place rates ws ≡ Err f

-- The words hold this table and these cues, or the sheet has this fault.
abbrev pub Whole : List ℕ → Result (RateTable × CueList) ReadError → Type 0
Whole words (Ok p) = reading words ≡ Ok (record { rates = rates_of p.0; entries = entries_of p.1 })
Whole words (Err (Fault f)) = reading words ≡ Err f
Whole words (Err NoMemory) = Unit {0}
