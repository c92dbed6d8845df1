-- What a tick decides before the chosen job runs, and what the policy was asked for it.
use Rattle.std.specs.Prelude.{◌≡◌, ℕ, ◌-◌, ◌*◌, ◌≤◌, cond, ◌||◌, List, length, is_some, Some, None, Option, nat_lt}
use Rattle.rates.specs.declared.level.Level.{Level}
use Rattle.rates.specs.Table.{rate_of, top_rate}
use Rattle.renderers.specs.declared.answer.Answer.{Answer}
use Rattle.scheduler.specs.declared.chosen.Chosen.{Chosen}
use Rattle.scheduler.specs.declared.job.Job.{Job}
use Rattle.scheduler.specs.declared.job.Stage.TheVariants.{Running}
use Rattle.calls.specs.declared.ticked.Ran.{Ran}
use Rattle.calls.specs.declared.ticked.Switch.{Switch}
use Rattle.runs.specs.SlowRun as slow
use Rattle.scheduler.specs.Day.{DayState, first_job, runner, bound_of, switch_to, level_in, ending_of, Paced}
use Rattle.scheduler.specs.Places.{first_place}

-- The first job stands at this place of the pending jobs, and is this one.
pub record Stands (day : DayState) (place : ℕ) (m : Job) : Type 0 where
  pub here : first_place day.pending ≡ Some place
  pub first : first_job day.pending ≡ Some m

-- The first job is chosen, with its place, the switch to it, its bound, its level and its rate.
pub record Chooses (day : DayState) (c : Chosen) : Type 0 where
  pub here : first_place day.pending ≡ Some c.place
  pub first : first_job day.pending ≡ Some c.job
  pub switched : c.switch ≡ switch_to day c.job c.level
  pub kept : level_in c.job c.switch ≡ c.level
  pub bound : c.bound ≡ bound_of day c.job
  pub rate : c.rate ≡ rate_of day.rates c.level.0
  pub paced : Paced day c.job c.switch
  pub from_one : 1 ≤ c.level.0
  pub in_table : c.level.0 ≤ length day.rates

-- The bound of a job that starts.
abbrev pub starting_bound : DayState → Job → ℕ
starting_bound day m =
    slow.chosen_bound
    slow.waiting
    (is_some (runner day.pending))
    day.clock
    day.handed_bound
    day.handed_deadline
    m.budget
    m.deadline

-- From where on a job that starts, and sets none aside, has its budget: the handed bound, unless that was handed by a job
-- due later or has passed.
abbrev pub free_from : DayState → Job → ℕ
free_from day m =
    cond (nat_lt m.deadline day.handed_deadline || nat_lt day.handed_bound day.clock) day.clock day.handed_bound

-- A policy is asked for a level at a switch alone: for what remains of the job, up to its bound. The top rate is fast enough
-- for that, so that it never has to answer none. Otherwise it stays as it was.
abbrev pub Asks :
    {P : Type 0} → (P → List ℕ → ℕ → ℕ → Option ℕ → P → Type 0) → DayState → Job → Option Switch → P → P → Type 0
Asks tells day m None before after = after ≡ before
Asks tells day m (Some switch) before after =
    (m.remaining ≤ top_rate day.rates * (switch.bound - day.clock))
    × tells before day.rates m.remaining (switch.bound - day.clock) (Some switch.level.0) after

-- What a tick tells of the chosen job, where the renderer gives this answer.
abbrev pub said : Chosen → Answer → Ran
said c given =
    record {
      job = c.job.number;
      switch = c.switch;
      rate = c.rate;
      answer = given;
      ending = ending_of given (c.job.remaining - c.rate);
    }

-- A job that ran for a tick, up to a bound, at a level and its rate, and is not over.
abbrev pub run_on : Job → ℕ → Level → ℕ → Job
run_on m bound level rate =
    record {
      number = m.number;
      deadline = m.deadline;
      budget = m.budget;
      remaining = m.remaining - rate;
      stage = Running bound level;
    }
