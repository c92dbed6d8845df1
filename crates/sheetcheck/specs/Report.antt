-- What is told of a sheet.
use Rattle.std.specs.Prelude.{◌≡◌, ℕ, List, length, Ok, Err, Result}
use Rattle.cues.specs.Demand.{Feasible}
use Rattle.cues.specs.Loading.{Loading}
use Rattle.cues.specs.CueLists.{cues_of}
use Rattle.faults.specs.declared.SheetFault.{SheetFault}
use Rattle.sheet.specs.declared.read.ReadSheet.{ReadSheet}
use Rattle.sheet.specs.Sheets.{contents, jobs, reading_bytes}
use Rattle.sheet.specs.Admission.{OverloadedBy}
use Rattle.sheetcheck.specs.declared.report.Summary.{Summary}

-- The verdict on a sheet: admitted where no interval demands more ticks than it has, and otherwise that fault.
abbrev pub Judges : ReadSheet → Result Unit SheetFault → Type 0
Judges sheet (Ok u) = Feasible (jobs sheet)
Judges sheet (Err fault) = OverloadedBy sheet fault

-- The summary tells the table of the sheet, the number of its cues, its loading factor and the verdict.
pub record Summarizes (sheet : ReadSheet) (summary : Summary) : Type 0 where
  pub table : summary.table ≡ sheet.table
  pub cues : summary.cues ≡ length (cues_of sheet.cues)
  pub load : Loading (jobs sheet) summary.load.demand summary.load.length summary.load.start summary.load.end
  pub verdict : Judges sheet summary.verdict

-- The summary is of the sheet that the bytes read as, or the fault is theirs.
abbrev pub Reports : List ℕ → Result Summary SheetFault → Type 0
Reports bytes (Ok summary) = (sheet : ReadSheet) × (reading_bytes bytes ≡ Ok (contents sheet)) × Summarizes sheet summary
Reports bytes (Err fault) = reading_bytes bytes ≡ Err fault
