-- The slowed run: the day with everything about speed forgotten. What is left of rates, policies and renderers is one Bool
-- of each tick, whether the job is done early; a job that is not done early is over when the clock comes to its bound.
use Rattle.std.specs.Prelude.{ℕ, ◌+◌, ◌-◌, Bool, true, false, cond, ◌&&◌, ◌||◌, List, [], ◌∷◌, ◌++◌, map, Some, None, Option, ◌==◌, nat_le, nat_lt}
use Rattle.cues.specs.Demand.{Job}

-- Where a job stands: never started; running since the tick before, with its bound; set aside, with its bound and the clock
-- noted then; over, with its end and its last bound.
pub data Stage : Type 0 where
  waiting : Stage
  running : ℕ → Stage
  aside : ℕ → ℕ → Stage
  over : ℕ → ℕ → Stage

-- A job in the slowed run: what it is, and where it stands.
pub record SlowRow : Type 0 where
  pub job : Job
  pub stage : Stage

-- The clock, the jobs in the order of their numbers (job n is the n-th from 1), and what the last ending handed on.
pub record Slow : Type 0 where
  pub clock : ℕ
  pub rows : List SlowRow
  pub handed_bound : ℕ
  pub handed_deadline : ℕ

-- The run before its first call.
abbrev pub fresh : Slow
fresh = record { clock = 0; rows = []; handed_bound = 0; handed_deadline = 0 }

-- An accepted call: the arrival of a job with its deadline and budget, or a tick, told whether its job is done early.
pub data Call : Type 0 where
  arrival : ℕ → ℕ → Call
  tick : Bool → Call

-- The job is not over.
abbrev pub pending : Stage → Bool
pending waiting = true
pending (running bound) = true
pending (aside bound noted) = true
pending (over end bound) = false

-- The job ran in the tick before, and is not over.
abbrev pub runs : Stage → Bool
runs waiting = false
runs (running bound) = true
runs (aside bound noted) = false
runs (over end bound) = false

-- Some job ran in the tick before, and is not over.
abbrev pub somebody_runs : List SlowRow → Bool
somebody_runs [] = false
somebody_runs (r ∷ rs) = runs r.stage || somebody_runs rs

-- Of a job and the first of the jobs with larger numbers: the one due earlier, of equal deadlines the smaller number.
abbrev pub earlier : SlowRow → Option SlowRow → SlowRow
earlier r None = r
earlier r (Some q) = cond (nat_le r.job.deadline q.job.deadline) r q

-- The first by deadline, then number, of the jobs whose stage passes a test.
abbrev pub first : (Stage → Bool) → List SlowRow → Option SlowRow
first test [] = None
first test (r ∷ rs) = cond (test r.stage) (Some (earlier r (first test rs))) (first test rs)

-- The bound of the chosen job, from its stage, whether it displaces a running job, the clock, the handed bound, the handed
-- deadline, its budget and its deadline. A job that starts over one set aside has its budget from the clock on; any other
-- that starts has it from the handed bound on, unless that was handed by a job due later or has passed. A resumed job's
-- bound moves on by as much as the handed bound is past the clock noted when it was set aside. A job that ran in the tick
-- before keeps its bound; one that is over is never chosen.
abbrev pub chosen_bound : Stage → Bool → ℕ → ℕ → ℕ → ℕ → ℕ → ℕ
chosen_bound waiting true clock handed handed_deadline budget deadline = clock + budget
chosen_bound waiting false clock handed handed_deadline budget deadline =
    cond (nat_lt deadline handed_deadline || nat_lt handed clock) (clock + budget) (handed + budget)
chosen_bound (running bound) displaces clock handed handed_deadline budget deadline = bound
chosen_bound (aside bound noted) displaces clock handed handed_deadline budget deadline = bound + handed - noted
chosen_bound (over end bound) displaces clock handed handed_deadline budget deadline = bound

-- A running job is set aside, with the clock noted; no other job changes.
abbrev pub set_aside : ℕ → Stage → Stage
set_aside clock waiting = waiting
set_aside clock (running bound) = aside bound clock
set_aside clock (aside bound noted) = aside bound noted
set_aside clock (over end bound) = over end bound

-- The jobs once one at this stage is chosen: unless it ran in the tick before, the job that did is set aside.
abbrev pub make_way : Stage → ℕ → List SlowRow → List SlowRow
make_way stage clock rows =
    cond (runs stage) rows (map (λ r. record { job = r.job; stage = set_aside clock r.stage }) rows)

-- The stage of a job after its tick: over if it is done early or the new clock is at its bound, and running otherwise.
abbrev pub settled : Bool → ℕ → ℕ → Stage
settled early after bound = cond (early || nat_le bound after) (over after bound) (running bound)

-- The first job by number that is pending and due at d gets a new stage.
abbrev pub put : ℕ → Stage → List SlowRow → List SlowRow
put d stage [] = []
put d stage (r ∷ rs) =
    cond
    (pending r.stage && r.job.deadline == d)
    (record { job = r.job; stage = stage } ∷ rs)
    (r ∷ put d stage rs)

-- What is handed on after a tick that left its job at this stage: the new value if it is over, else the old one.
abbrev pub handed_on : Stage → ℕ → ℕ → ℕ
handed_on stage new old = cond (pending stage) old new

-- The bound with which a chosen job goes on.
abbrev pub bound_of : Slow → SlowRow → ℕ
bound_of s m =
    chosen_bound
    m.stage
    (somebody_runs s.rows)
    s.clock
    s.handed_bound
    s.handed_deadline
    m.job.budget
    m.job.deadline

-- The stage at which the tick leaves it.
abbrev pub stage_of : Slow → Bool → SlowRow → Stage
stage_of s early m = settled early (s.clock + 1) (bound_of s m)

-- One tick, for the job that is chosen if one is pending.
abbrev pub ticked : Slow → Bool → Option SlowRow → Slow
ticked s early None =
    record {
      clock = s.clock + 1;
      rows = s.rows;
      handed_bound = s.handed_bound;
      handed_deadline = s.handed_deadline;
    }
ticked s early (Some m) =
    record {
      clock = s.clock + 1;
      rows = put m.job.deadline (stage_of s early m) (make_way m.stage s.clock s.rows);
      handed_bound = handed_on (stage_of s early m) (bound_of s m) s.handed_bound;
      handed_deadline = handed_on (stage_of s early m) m.job.deadline s.handed_deadline;
    }

-- One accepted call.
abbrev pub step : Slow → Call → Slow
step s (arrival d b) =
    record {
      clock = s.clock;
      rows =
          s.rows ++ (record { job = record { release = s.clock; deadline = d; budget = b }; stage = waiting } ∷ []);
      handed_bound = s.handed_bound;
      handed_deadline = s.handed_deadline;
    }
step s (tick early) = ticked s early (first pending s.rows)

-- The slowed run of a list of accepted calls, the earliest first.
abbrev pub run : Slow → List Call → Slow
run s [] = s
run s (c ∷ cs) = run (step s c) cs
