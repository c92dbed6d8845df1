-- Scripts that were read, and the answers of reading.
use Rattle.std.specs.Prelude.{◌≡◌, ℕ, List, Ok, Err, vec_items, Result}
use Rattle.words.specs.Bytes.{read_bytes}
use Rattle.script.specs.declared.Script.{Script}
use Rattle.script.specs.declared.ScriptError.{ScriptError}
use Rattle.script.specs.declared.ScriptError.TheVariants.{WrongWord, NoMemory}
use Rattle.script.specs.Reading.{Contents, Reading, reading}

-- What a script that was read holds.
abbrev pub contents : Script → Contents
contents script =
    record { rates = vec_items script.rates; calls = vec_items script.calls; tape = vec_items script.tape }

-- The answer of reading is what the words read as: the contents of the script, or the first word that is wrong or
-- missing. Want of memory says nothing of them.
abbrev pub Told : Reading → Result Script ScriptError → Type 0
Told read (Ok script) = read ≡ Ok (contents script)
Told read (Err (WrongWord place)) = read ≡ Err place
Told read (Err NoMemory) = Unit {0}

abbrev pub ReadAs : List ℕ → Result Script ScriptError → Type 0
ReadAs words r = Told (reading words) r

-- Bytes read as their whole words do; but where some are left over, a script that they make lacks a word there.
abbrev pub reading_bytes : List ℕ → Reading
reading_bytes bytes = read_bytes reading (λ words. words) bytes

abbrev pub ReadBytesAs : List ℕ → Result Script ScriptError → Type 0
ReadBytesAs bytes r = Told (reading_bytes bytes) r
