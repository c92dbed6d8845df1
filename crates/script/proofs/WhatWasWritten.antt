-- What the answer of reading says of the words as a script.
use Rattle.std.proofs.Common.{ℕ, List, Ok, Err, Result, sym, ◌∙◌}
use Rattle.words.specs.Words.{whole}
use Rattle.script.specs.declared.Script.{Script}
use Rattle.script.specs.declared.ScriptError.{ScriptError}
use Rattle.script.specs.declared.ScriptError.TheVariants.{WrongWord, NoMemory}
use Rattle.script.specs.Scripts.{contents, ReadAs}
use Rattle.script.specs.ScriptWords.{Written, WrittenBytes}
use Rattle.script.proofs.ReadBack.{wrong-is_no_script, written_where_read}
use Rattle.script.proofs.WriteBack.{read_where_written}

-- Words that were read are those of the script, and refused words are those of none.
pub written_by_answer : (words : List ℕ) (r : Result Script ScriptError) → ReadAs words r → Written words r
written_by_answer words (Ok script) h = written_where_read words (contents script) h
written_by_answer words (Err (WrongWord place)) h = λ c w. wrong-is_no_script place c (sym h ∙ read_where_written words c w)
written_by_answer words (Err NoMemory) h = tt

-- Bytes whose words are those of no script are none of a script.
pub refused_bytes : (bytes : List ℕ) (e : ScriptError) → Written (whole bytes) (Err e) → WrittenBytes bytes (Err e)
refused_bytes bytes (WrongWord place) h = λ c even w. h c w
refused_bytes bytes NoMemory h = tt
