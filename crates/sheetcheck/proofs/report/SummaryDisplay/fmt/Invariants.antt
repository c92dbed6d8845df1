use Rattle.std.proofs.Common.{◌++◌, take, codes, decimal}
use Rattle.std.specs.List.{flat_map}
use Rattle.std.specs.Fmt.{IsPlainFormatter, HasWritten}
use Rattle.sheetcheck.proofs.report.SummaryDisplay.fmt.Given as goal

abbrev pub invariant-loop-rate : goal.invariant-loop-rate
invariant-loop-rate g l =
    IsPlainFormatter l.fn.f → HasWritten g.W.Write.write_str_gives l.fn.f (codes "rates" ++ flat_map (λ n. codes " " ++ decimal n) (take l.rate-index l.rate-items)) l.f
