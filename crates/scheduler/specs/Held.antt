-- What a day holds in its memory, as a day between two calls.
use Rattle.std.specs.Prelude.{ℕ}
use Rattle.arrayvec.specs.ArrayVec.{ArrayVec}
use Rattle.rates.specs.declared.table.RateTable.{RateTable}
use Rattle.rates.specs.Table.{rates_of}
use Rattle.scheduler.specs.declared.handed.Handed.{Handed}
use Rattle.scheduler.specs.declared.job.Job.{Job}
use Rattle.scheduler.specs.Day.{DayState}

-- The day with this table, clock, count of accepted jobs, summed budgets, pending jobs, handed bound and handed deadline.
abbrev pub held : RateTable → ℕ → ℕ → ℕ → ArrayVec Job → Handed → DayState
held table clock accepted budgets pending handed =
    record {
      rates = rates_of table;
      clock = clock;
      accepted = accepted;
      budgets = budgets;
      pending = pending.items;
      handed_bound = handed.bound;
      handed_deadline = handed.deadline;
    }
