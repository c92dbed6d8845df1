-- What the answer of reading says of the words.
use Rattle.std.proofs.Common.{ℕ, List, Ok, Err, Result, sym, ◌∙◌}
use Rattle.faults.specs.declared.ReadError.{ReadError}
use Rattle.faults.specs.declared.ReadError.TheVariants.{Fault, NoMemory}
use Rattle.sheet.specs.declared.read.ReadSheet.{ReadSheet}
use Rattle.sheet.specs.Sheets.{ReadAs, contents}
use Rattle.sheet.specs.SheetWords.{Written}
use Rattle.sheet.proofs.CueBounds.{fault_is_no_sheet}
use Rattle.sheet.proofs.ReadBack.{written_where_read}
use Rattle.sheet.proofs.WriteBack.{read_where_written}

-- Words that were read are those of a sound sheet, and refused words are those of none.
pub written_by_answer : (words : List ℕ) (r : Result ReadSheet ReadError) → ReadAs words r → Written words r
written_by_answer words (Ok sheet) h = written_where_read words (contents sheet) h
written_by_answer words (Err (Fault f)) h = λ c same sound. fault_is_no_sheet f c (sym h ∙ read_where_written words c same sound)
written_by_answer words (Err NoMemory) h = tt
