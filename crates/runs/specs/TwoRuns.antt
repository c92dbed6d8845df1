-- What holds of every list of accepted calls: of the slowed run beside the reference run, and of the reference run beside
-- the demand of its jobs.
use Rattle.std.specs.Prelude.{◌≡◌, ◌≤◌, ◌↔◌, List, map}
use Rattle.std.specs.List.{ContainsAt}
use Rattle.cues.specs.Demand.{Feasible, Overloaded}
use Rattle.runs.specs.ReferenceRun as reference
use Rattle.runs.specs.SlowRun as slow
use Rattle.runs.specs.NeverBehind.{Budgeted, RowsAgree, Sound, accepted}
use Rattle.runs.specs.Deadlines as deadlines

-- The slowed run has the clock and the jobs of the reference run, and none of them is behind.
abbrev pub NeverBehind : Type 0
NeverBehind =
    (cs : List slow.Call)
    → Budgeted cs
    → ((slow.run slow.fresh cs).clock ≡ (reference.run reference.fresh (map accepted cs)).clock)
    × RowsAgree (slow.run slow.fresh cs).rows (reference.run reference.fresh (map accepted cs)).rows

-- The bounds of the slowed run hold, and the job that it chooses next has time enough up to its bound.
abbrev pub AlwaysSound : Type 0
AlwaysSound = (cs : List slow.Call) → Budgeted cs → Sound (slow.run slow.fresh cs)

-- Where no interval demands more ticks than it has, the reference run has each job over by its deadline, once that has come.
abbrev pub OverByDeadline : Type 0
OverByDeadline =
    (calls : List reference.Accepted)
    → deadlines.Sound 0 calls
    → Feasible (deadlines.jobs (reference.run reference.fresh calls))
    → (r : reference.Row)
    → ContainsAt (reference.run reference.fresh calls).rows r
    → r.job.deadline ≤ (reference.run reference.fresh calls).clock
    → deadlines.OverBy r.job.deadline r.end

-- Once the last deadline has come, it has missed a job exactly when some interval demands more ticks than it has.
abbrev pub MissedExactly : Type 0
MissedExactly =
    (calls : List reference.Accepted)
    → deadlines.Sound 0 calls
    → deadlines.last_deadline (deadlines.jobs (reference.run reference.fresh calls)) ≤ (reference.run reference.fresh calls).clock
    → deadlines.Misses (reference.run reference.fresh calls) ↔ Overloaded (deadlines.jobs (reference.run reference.fresh calls))
