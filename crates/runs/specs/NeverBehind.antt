-- What is said of the slowed run: beside the reference run of the same calls, and by itself.
use Rattle.std.specs.Prelude.{◌≡◌, ℕ, ◌+◌, ◌-◌, ◌<◌, ◌≤◌, Bool, true, false, cond, List, [], ◌∷◌, Some, None, Option}
use Rattle.std.specs.List.{AllByRecursion}
use Rattle.runs.specs.ReferenceRun.{Accepted, released, ticked, Row}
use Rattle.runs.specs.SlowRun.{Call, arrival, tick, Stage, waiting, running, aside, over, Slow, SlowRow, pending, runs, somebody_runs, first, bound_of}

-- Every job that arrives has a budget of at least one tick.
abbrev pub Budgeted : List Call → Type 0
Budgeted [] = Unit {0}
Budgeted (arrival d b ∷ cs) = (1 ≤ b) × Budgeted cs
Budgeted (tick early ∷ cs) = Budgeted cs

-- The call as the reference run sees it.
abbrev pub accepted : Call → Accepted
accepted (arrival d b) = released d b
accepted (tick early) = ticked

-- A job that is over in the reference run is over in the slowed run, with its end at or before its last bound, and that at
-- or before its reference end.
abbrev pub NotBehind : Stage → Option ℕ → Type 0
NotBehind stage None = Unit {0}
NotBehind waiting (Some e) = ⊥
NotBehind (running bound) (Some e) = ⊥
NotBehind (aside bound noted) (Some e) = ⊥
NotBehind (over end bound) (Some e) = (end ≤ bound) × (bound ≤ e)

-- Both runs have the same jobs, and none is behind.
abbrev pub RowsAgree : List SlowRow → List Row → Type 0
RowsAgree [] [] = Unit {0}
RowsAgree [] (r ∷ rs) = ⊥
RowsAgree (s ∷ ss) [] = ⊥
RowsAgree (s ∷ ss) (r ∷ rs) = (s.job ≡ r.job) × NotBehind s.stage r.end × RowsAgree ss rs

-- The summed budgets of all jobs accepted so far.
abbrev pub budgets : List SlowRow → ℕ
budgets [] = 0
budgets (r ∷ rs) = r.job.budget + budgets rs

-- How many jobs are at a stage that passes a test.
abbrev pub how_many : (Stage → Bool) → List SlowRow → ℕ
how_many test [] = 0
how_many test (r ∷ rs) = cond (test r.stage) 1 0 + how_many test rs

-- The job is pending and has run.
abbrev pub started : Stage → Bool
started waiting = false
started (running bound) = true
started (aside bound noted) = true
started (over end bound) = false

-- The bounds of a stage: that of a running job is ahead of the clock, a job set aside had time left, and a job that is over
-- ended at its bound or before. None is past the limit.
abbrev pub BoundsHold : ℕ → ℕ → Stage → Type 0
BoundsHold clock limit waiting = Unit {0}
BoundsHold clock limit (running bound) = (clock < bound) × (bound ≤ limit)
BoundsHold clock limit (aside bound noted) = (noted < bound) × (noted ≤ clock) × (bound ≤ limit)
BoundsHold clock limit (over end bound) = (end ≤ bound) × (end ≤ clock) × (bound ≤ limit)

-- For a job set aside the handed bound has not passed yet.
abbrev pub Resumable : ℕ → ℕ → Stage → Type 0
Resumable clock handed waiting = Unit {0}
Resumable clock handed (running bound) = Unit {0}
Resumable clock handed (aside bound noted) = clock ≤ handed
Resumable clock handed (over end bound) = Unit {0}

-- The time that a chosen job has up to its bound: at a start at least its budget, at a resumption at least what it had left
-- when it was set aside, and otherwise up to the bound that it had.
abbrev pub TimeEnough : Stage → ℕ → ℕ → ℕ → Type 0
TimeEnough waiting clock budget bound = clock + budget ≤ bound
TimeEnough (running old) clock budget bound = bound ≡ old
TimeEnough (aside old noted) clock budget bound = old - noted ≤ bound - clock
TimeEnough (over end old) clock budget bound = ⊥

-- A job is resumed only when nobody runs.
abbrev pub ResumedAlone : Stage → Bool → Type 0
ResumedAlone waiting somebody = Unit {0}
ResumedAlone (running bound) somebody = Unit {0}
ResumedAlone (aside bound noted) somebody = somebody ≡ false
ResumedAlone (over end bound) somebody = Unit {0}

-- The bound of the job that the next tick chooses, if one is pending: it lies ahead of the clock, by time enough, and not
-- past the clock and all budgets.
abbrev pub ChosenWell : Slow → Option SlowRow → Type 0
ChosenWell s None = Unit {0}
ChosenWell s (Some m) =
    (s.clock < bound_of s m)
    × (bound_of s m ≤ s.clock + budgets s.rows)
    × TimeEnough m.stage s.clock m.job.budget (bound_of s m)
    × ResumedAlone m.stage (somebody_runs s.rows)

-- What holds in every slowed run.
pub record Sound (s : Slow) : Type 0 where
  -- at most one job runs
  pub one_runs : how_many runs s.rows ≤ 1
  -- and it is the first of those that have started
  pub runs_first :
      somebody_runs s.rows ≡ true → (m : SlowRow) × (first started s.rows ≡ Some m) × (runs m.stage ≡ true)
  pub bounds_hold : AllByRecursion (λ r. BoundsHold s.clock (s.clock + budgets s.rows) r.stage) s.rows
  pub resumable :
      somebody_runs s.rows ≡ false → AllByRecursion (λ r. Resumable s.clock s.handed_bound r.stage) s.rows
  pub handed_holds : s.handed_bound ≤ s.clock + budgets s.rows
  pub chosen_well : ChosenWell s (first pending s.rows)
