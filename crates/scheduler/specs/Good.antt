-- What holds of every day that some list of calls leads to: its numbers are small, its jobs are numbered in order, and the
-- job that the next tick chooses can be done in time.
use Rattle.std.specs.Prelude.{ℕ, ◌+◌, ◌-◌, ◌*◌, ◌<◌, ◌≤◌, cond, List, [], ◌∷◌, length, Some, None, Option}
use Rattle.std.specs.List.{AllByRecursion}
use Rattle.rates.specs.Table.{rate_of, top_rate}
use Rattle.scheduler.specs.declared.job.Job.{Job}
use Rattle.scheduler.specs.declared.job.Stage.{Stage}
use Rattle.scheduler.specs.declared.job.Stage.TheVariants.{Waiting, Running, Aside}
use Rattle.runs.specs.NeverBehind.{BoundsHold}
use Rattle.scheduler.specs.Day.{DayState, first_job, bound_of, paced, runs}

-- The numbers of the jobs rise, from above one number up to another.
abbrev pub Numbered : ℕ → ℕ → List Job → Type 0
Numbered low high [] = Unit {0}
Numbered low high (j ∷ js) = (low < j.number) × (j.number ≤ high) × Numbered j.number high js

-- A running job has a level of the table, at which what remains is done by its bound.
abbrev pub OnPace : List ℕ → ℕ → ℕ → Stage → Type 0
OnPace rates clock remaining Waiting = Unit {0}
OnPace rates clock remaining (Running bound level) =
    (1 ≤ level.0) × (level.0 ≤ length rates) × (remaining ≤ rate_of rates level.0 * (bound - clock))
OnPace rates clock remaining (Aside bound noted) = Unit {0}

pub record GoodJob (s : DayState) (j : Job) : Type 0 where
  pub some_budget : 1 ≤ j.budget
  pub small_budget : j.budget ≤ 65535
  pub small_deadline : j.deadline ≤ 134217727
  pub some_remains : 1 ≤ j.remaining
  pub little_remains : j.remaining ≤ j.budget * top_rate s.rates
  pub bounds : BoundsHold s.clock (s.clock + s.budgets) (paced j.stage)
  pub on_pace : OnPace s.rates s.clock j.remaining j.stage

-- How many of the jobs ran in the tick before.
abbrev pub running : List Job → ℕ
running [] = 0
running (j ∷ js) = cond (runs j) 1 0 + running js

-- The job that the next tick chooses has time enough, at the top rate at least: no policy has to say none.
abbrev pub ChosenGood : DayState → Option Job → Type 0
ChosenGood s None = Unit {0}
ChosenGood s (Some m) =
    (s.clock < bound_of s m)
    × (bound_of s m ≤ s.clock + s.budgets)
    × (m.remaining ≤ top_rate s.rates * (bound_of s m - s.clock))

pub record Good (s : DayState) : Type 0 where
  pub clock_low : s.clock ≤ 134217727
  pub budgets_low : s.budgets ≤ 134217727
  pub numbers_low : s.accepted ≤ s.budgets
  pub handed_low : s.handed_bound ≤ s.clock + s.budgets
  pub few : length s.pending ≤ 64
  pub one_runs : running s.pending ≤ 1
  pub numbered : Numbered 0 s.accepted s.pending
  pub jobs_good : AllByRecursion (GoodJob s) s.pending
  pub chosen_good : ChosenGood s (first_job s.pending)
