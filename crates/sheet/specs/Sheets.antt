-- Sheets that were read or admitted, and the answers of reading and admitting.
use Rattle.std.specs.Prelude.{◌≡◌, ℕ, ◌+◌, ◌*◌, ◌≤◌, List, length, Ok, Err, Result}
use Rattle.words.specs.Bytes.{read_bytes}
use Rattle.rates.specs.Table.{rates_of}
use Rattle.cues.specs.Demand.{Job}
use Rattle.cues.specs.Cues.{jobs_of}
use Rattle.cues.specs.CueLists.{cues_of}
use Rattle.words.specs.declared.fault.WordFault.TheVariants.{EndsEarly}
use Rattle.faults.specs.declared.SheetFault.TheVariants.{BadWord as sheet_word}
use Rattle.faults.specs.declared.ReadError.{ReadError}
use Rattle.faults.specs.declared.ReadError.TheVariants.{Fault, NoMemory}
use Rattle.sheet.specs.declared.read.ReadSheet.{ReadSheet}
use Rattle.faults.specs.Fault.{fault_place}
use Rattle.sheet.specs.Reading.{Contents, Reading, reading}
use Rattle.sheet.specs.Parts.{entries_of}

-- What a sheet that was read holds.
abbrev pub contents : ReadSheet → Contents
contents sheet = record { rates = rates_of sheet.table; entries = entries_of sheet.cues }

-- The work that its cues ask for.
abbrev pub jobs : ReadSheet → List Job
jobs sheet = jobs_of (cues_of sheet.cues)

-- The place of its end word, behind the edition, the rates and four words a cue.
abbrev pub end_place : ReadSheet → ℕ
end_place sheet = 1 + length (rates_of sheet.table) + 4 * length (cues_of sheet.cues)

-- The answer of reading is what the words read as; want of memory says nothing of them.
abbrev pub Told : Reading → Result ReadSheet ReadError → Type 0
Told read (Ok sheet) = read ≡ Ok (contents sheet)
Told read (Err (Fault f)) = read ≡ Err f
Told read (Err NoMemory) = Unit {0}

abbrev pub ReadAs : List ℕ → Result ReadSheet ReadError → Type 0
ReadAs words r = Told (reading words) r

-- A fault stands at one of the words, or behind the last where they end early.
abbrev pub Placed : List ℕ → Result ReadSheet ReadError → Type 0
Placed words (Ok sheet) = Unit {0}
Placed words (Err (Fault f)) = fault_place f ≤ length words
Placed words (Err NoMemory) = Unit {0}

-- Bytes read as their whole words do; but where some are left over, a sheet ends early there.
abbrev pub reading_bytes : List ℕ → Reading
reading_bytes bytes = read_bytes reading (λ words. sheet_word words EndsEarly) bytes

abbrev pub ReadBytesAs : List ℕ → Result ReadSheet ReadError → Type 0
ReadBytesAs bytes r = Told (reading_bytes bytes) r
