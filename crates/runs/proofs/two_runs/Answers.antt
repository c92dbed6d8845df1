use Rattle.runs.proofs.ReferenceDemand.{feasible-over-by-deadline, missed-exactly-when-overloaded}
use Rattle.runs.proofs.SlowLaw.{slow-run_not_behind}
use Rattle.runs.proofs.SlowSound.{slow-run_sound}
use Rattle.runs.proofs.two_runs.Goals as goal

pub returns : goal.returns
returns c =
    record {
      never_behind = slow-run_not_behind;
      sound = slow-run_sound;
      in_time = feasible-over-by-deadline;
      missed = missed-exactly-when-overloaded;
    }
