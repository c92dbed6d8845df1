-- What is made ready for a rehearsal.
use Rattle.std.specs.Prelude.{◌≡◌, ℕ, List, Some, Ok, Err, vec_items, Result}
use Rattle.rates.specs.Judged.{judged}
use Rattle.rates.specs.Table.{rates_of}
use Rattle.dayplay.specs.declared.rehearsal.Prepared.{Prepared}
use Rattle.dayplay.specs.declared.rehearsal.PrepareError.{PrepareError}
use Rattle.dayplay.specs.declared.rehearsal.PrepareError.TheVariants.{WrongScript, WrongTable, NoMemory}
use Rattle.script.specs.Reading.{Contents}
use Rattle.script.specs.Scripts.{contents, reading_bytes}

-- The script that the bytes are with the table of its rates; or the place of the first wrong or missing word; or, the
-- shape being right, why the rates make no table. For want of memory it may be none of these.
abbrev pub Prepares : List ℕ → Result Prepared PrepareError → Type 0
Prepares bytes (Ok made) = (reading_bytes bytes ≡ Ok (contents made.script)) × (rates_of made.table ≡ vec_items made.script.rates)
Prepares bytes (Err (WrongScript place)) = reading_bytes bytes ≡ Err place
Prepares bytes (Err (WrongTable refusal)) = (c : Contents) × (reading_bytes bytes ≡ Ok c) × (judged c.rates ≡ Some refusal)
Prepares bytes (Err NoMemory) = Unit {0}
