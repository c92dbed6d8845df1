-- The lines that a report is shown as.
use Rattle.std.specs.Prelude.{ℕ, List, ◌∷◌, ◌++◌, codes, decimal, Ok, Err, Result}
use Rattle.std.specs.List.{flat_map}
use Rattle.rates.specs.declared.table.RateTable.{RateTable}
use Rattle.rates.specs.Table.{rates_of}
use Rattle.cues.specs.declared.load.Load.{Load}
use Rattle.faults.specs.declared.SheetFault.{SheetFault}
use Rattle.faults.specs.Fault.{fault_line}
use Rattle.sheetcheck.specs.declared.report.Summary.{Summary}

-- Each rate behind a space.
abbrev pub rates_line : RateTable → List ℕ
rates_line table = codes "rates" ++ flat_map (λ n. codes " " ++ decimal n) (rates_of table)

abbrev pub verdict_line : Result Unit SheetFault → List ℕ
verdict_line (Ok u) = codes "admitted"
verdict_line (Err fault) = fault_line fault

abbrev pub load_line : Load → List ℕ
load_line l =
    codes "load " ++ (decimal l.demand ++ (codes " of " ++ (decimal l.length ++ (codes " in " ++ (decimal l.start ++ (codes " to " ++ decimal l.end))))))

-- The rates, the number of cues, the loading factor and the verdict, a line each; 10 ends a line.
abbrev pub summary_lines : Summary → List ℕ
summary_lines s =
    rates_line s.table ++ (10 ∷ (codes "cues " ++ (decimal s.cues ++ (10 ∷ (load_line s.load ++ (10 ∷ verdict_line s.verdict))))))

abbrev pub report_lines : Result Summary SheetFault → List ℕ
report_lines (Ok summary) = summary_lines summary
report_lines (Err fault) = fault_line fault
