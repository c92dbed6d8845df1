-- The day: what its calls refuse, and what an accepted one makes of it.
use Rattle.std.specs.Prelude.{◌≡◌, ℕ, ◌+◌, ◌-◌, ◌*◌, Bool, cond, List, [], ◌∷◌, ◌++◌, map, length, is_some, Some, None, Option, ◌==◌, nat_le, nat_lt}
use Rattle.rates.specs.declared.level.Level.{Level}
use Rattle.rates.specs.Table.{rate_of, top_rate}
use Rattle.rates.specs.Policy.{Sufficient}
use Rattle.renderers.specs.declared.answer.Answer.{Answer}
use Rattle.renderers.specs.declared.answer.Answer.TheVariants as answer
use Rattle.scheduler.specs.declared.job.Job.{Job}
use Rattle.scheduler.specs.declared.job.Stage.{Stage}
use Rattle.scheduler.specs.declared.job.Stage.TheVariants.{Waiting, Running, Aside}
use Rattle.calls.specs.declared.ticked.Ticked.{Ticked}
use Rattle.calls.specs.declared.ticked.Ticked.TheVariants.{Idle, Ran as ran}
use Rattle.calls.specs.declared.ticked.Ran.{Ran}
use Rattle.calls.specs.declared.ticked.Switch.{Switch}
use Rattle.calls.specs.declared.ticked.Turn.{Turn}
use Rattle.calls.specs.declared.ticked.Turn.TheVariants.{Start, Resume}
use Rattle.calls.specs.declared.ticked.Ending.{Ending}
use Rattle.calls.specs.declared.ticked.Ending.TheVariants as ending
use Rattle.calls.specs.declared.refusal.Refusal.{Refusal}
use Rattle.calls.specs.declared.refusal.Refusal.TheVariants as refusal
use Rattle.cues.specs.declared.refusal.CueRefusal.{CueRefusal}
use Rattle.cues.specs.Cues.{cue_refusal}
use Rattle.runs.specs.SlowRun as slow

-- A day between two calls: the rates of its table, the clock, how many jobs were accepted and their summed budgets, the
-- pending jobs in the order of their numbers, and what the last ending handed on.
pub record DayState : Type 0 where
  pub rates : List ℕ
  pub clock : ℕ
  pub accepted : ℕ
  pub budgets : ℕ
  pub pending : List Job
  pub handed_bound : ℕ
  pub handed_deadline : ℕ

-- A fresh day.
abbrev pub opened : List ℕ → DayState
opened rates =
    record {
      rates = rates;
      clock = 0;
      accepted = 0;
      budgets = 0;
      pending = [];
      handed_bound = 0;
      handed_deadline = 0;
    }

-- Why a job is refused that is a cue, or no cue for this cause.
abbrev pub job_refusal : DayState → ℕ → Option CueRefusal → Option Refusal
job_refusal s budget (Some cause) = Some (refusal.Job cause)
job_refusal s budget None =
    cond
    (nat_lt (length s.pending) 64)
    (cond (nat_le (s.budgets + budget) 134217727) None (Some (refusal.Budgets s.budgets)))
    (Some (refusal.Pending 64))

-- Why a release is refused, the want of room left aside: the lowest number that applies.
abbrev pub release_refusal : DayState → ℕ → ℕ → Option Refusal
release_refusal s deadline budget = job_refusal s budget (cue_refusal s.clock deadline budget)

-- The day after a release that was accepted: the job has the next number, and its budget at the top rate remains.
abbrev pub released : DayState → ℕ → ℕ → DayState
released s deadline budget =
    record {
      rates = s.rates;
      clock = s.clock;
      accepted = s.accepted + 1;
      budgets = s.budgets + budget;
      pending =
          s.pending
          ++ (record {
            number = s.accepted + 1;
            deadline = deadline;
            budget = budget;
            remaining = budget * top_rate s.rates;
            stage = Waiting;
          }
          ∷ []);
      handed_bound = s.handed_bound;
      handed_deadline = s.handed_deadline;
    }

-- Why a tick is refused, the want of room left aside.
abbrev pub tick_refusal : DayState → Option Refusal
tick_refusal s = cond (nat_lt s.clock 134217727) None (Some (refusal.Clock s.clock))

-- The stage of a pending job with its level forgotten.
abbrev pub paced : Stage → slow.Stage
paced Waiting = slow.waiting
paced (Running bound level) = slow.running bound
paced (Aside bound noted) = slow.aside bound noted

-- The job ran in the tick before.
abbrev pub runs : Job → Bool
runs j = slow.runs (paced j.stage)

-- The number of the job that ran in the tick before, if it is pending.
abbrev pub runner : List Job → Option ℕ
runner [] = None
runner (j ∷ js) = cond (runs j) (Some j.number) (runner js)

-- Of a job and the first of those with larger numbers: the one due earlier, of equal deadlines the smaller number.
abbrev pub earlier : Job → Option Job → Job
earlier j None = j
earlier j (Some q) = cond (nat_le j.deadline q.deadline) j q

-- The first pending job by deadline, ties to the smaller number.
abbrev pub first_job : List Job → Option Job
first_job [] = None
first_job (j ∷ js) = Some (earlier j (first_job js))

-- The bound of the chosen job: it stays where the job ran in the tick before, and is set anew at a switch.
abbrev pub bound_of : DayState → Job → ℕ
bound_of s m =
    slow.chosen_bound
    (paced m.stage)
    (is_some (runner s.pending))
    s.clock
    s.handed_bound
    s.handed_deadline
    m.budget
    m.deadline

-- A job that was set aside resumes; one that never ran starts.
abbrev pub turn_of : Stage → Turn
turn_of Waiting = Start
turn_of (Running bound level) = Resume
turn_of (Aside bound noted) = Resume

-- The switch to the chosen job at a level: none where it ran in the tick before.
abbrev pub switch_to : DayState → Job → Level → Option Switch
switch_to s m level =
    cond
    (runs m)
    None
    (Some (record { aside = runner s.pending; turn = turn_of m.stage; level = level; bound = bound_of s m }))

-- The level at which a job runs: that of the switch to it, or the one that it has.
abbrev pub level_kept : Stage → Level
level_kept Waiting = record { 0 = 0 }
level_kept (Running bound level) = level
level_kept (Aside bound noted) = record { 0 = 0 }

abbrev pub level_in : Job → Option Switch → Level
level_in m None = level_kept m.stage
level_in m (Some switch) = switch.level

-- How the renderer's answer ends a job of which this much remains after the tick.
abbrev pub ending_of : Answer → ℕ → Option Ending
ending_of answer.Running remaining = cond (remaining == 0) (Some ending.Cut) None
ending_of answer.Finished remaining = Some ending.Finished
ending_of (answer.Failed code) remaining = Some (ending.Failed code)

-- What a tick tells of the chosen job, where it runs at this level and the renderer gives this answer.
abbrev pub told : DayState → Job → Level → Answer → Ran
told s m level given =
    record {
      job = m.number;
      switch = switch_to s m level;
      rate = rate_of s.rates level.0;
      answer = given;
      ending = ending_of given (m.remaining - rate_of s.rates level.0);
    }

-- A job that ran in the tick before and is not chosen is set aside, with the clock noted.
abbrev pub set_aside : ℕ → Stage → Stage
set_aside clock Waiting = Waiting
set_aside clock (Running bound level) = Aside bound clock
set_aside clock (Aside bound noted) = Aside bound noted

abbrev pub make_way : Job → ℕ → List Job → List Job
make_way m clock js =
    cond
    (runs m)
    js
    (map
    (λ j.
    record {
      number = j.number;
      deadline = j.deadline;
      budget = j.budget;
      remaining = j.remaining;
      stage = set_aside clock j.stage;
    })
    js)

-- What is pending of a job after it ran: nothing once it is over, else the job with less remaining.
abbrev pub left_of : Job → ℕ → Level → ℕ → Option Ending → List Job
left_of m bound level rate None =
    record {
      number = m.number;
      deadline = m.deadline;
      budget = m.budget;
      remaining = m.remaining - rate;
      stage = Running bound level;
    }
    ∷ []
left_of m bound level rate (Some e) = []

-- The pending jobs with these in the place of the first one that is due at d.
abbrev pub amend : ℕ → List Job → List Job → List Job
amend d new [] = []
amend d new (j ∷ js) = cond (j.deadline == d) (new ++ js) (j ∷ amend d new js)

-- What an ending hands on; without one, what was handed on before.
abbrev pub handed : Option Ending → ℕ → ℕ → ℕ
handed None new old = old
handed (Some e) new old = new

-- The day after a tick that told this of the chosen job.
abbrev pub after_run : DayState → Job → Ran → DayState
after_run s m r =
    record {
      rates = s.rates;
      clock = s.clock + 1;
      accepted = s.accepted;
      budgets = s.budgets;
      pending =
          amend
          m.deadline
          (left_of m (bound_of s m) (level_in m r.switch) r.rate r.ending)
          (make_way m s.clock s.pending);
      handed_bound = handed r.ending (bound_of s m) s.handed_bound;
      handed_deadline = handed r.ending m.deadline s.handed_deadline;
    }

-- The day after an idle tick: only the clock rises.
abbrev pub after_idle : DayState → DayState
after_idle s =
    record {
      rates = s.rates;
      clock = s.clock + 1;
      accepted = s.accepted;
      budgets = s.budgets;
      pending = s.pending;
      handed_bound = s.handed_bound;
      handed_deadline = s.handed_deadline;
    }

-- The day after a tick that told this. (A tick that tells of a job where none is pending does not occur.)
abbrev pub after_chosen : DayState → Ran → Option Job → DayState
after_chosen s r None = s
after_chosen s r (Some m) = after_run s m r

abbrev pub after_tick : DayState → Ticked → DayState
after_tick s Idle = after_idle s
after_tick s (ran r) = after_chosen s r (first_job s.pending)

-- At a switch the level is one that suffices for what remains up to the bound; a job that goes on keeps its level.
abbrev pub Paced : DayState → Job → Option Switch → Type 0
Paced s m None = Unit {0}
Paced s m (Some switch) = Sufficient s.rates m.remaining (switch.bound - s.clock) switch.level.0

-- What a tick may tell: it is idle exactly when no job is pending, and otherwise tells of the first job what the rules say,
-- at a level that a policy may choose and with the renderer's answer.
abbrev pub ToldChosen : DayState → Ran → Option Job → Type 0
ToldChosen s r None = ⊥
ToldChosen s r (Some m) = (r ≡ told s m (level_in m r.switch) r.answer) × Paced s m r.switch

abbrev pub Told : DayState → Ticked → Type 0
Told s Idle = first_job s.pending ≡ None
Told s (ran r) = ToldChosen s r (first_job s.pending)

-- An accepted call: a job that was released with its deadline and budget, or a tick with what it told.
pub data Event : Type 0 where
  arrived : ℕ → ℕ → Event
  passed : Ticked → Event

abbrev pub after : DayState → Event → DayState
after s (arrived deadline budget) = released s deadline budget
after s (passed t) = after_tick s t

-- The day could accept this call and answer it so.
abbrev pub Possible : DayState → Event → Type 0
Possible s (arrived deadline budget) = release_refusal s deadline budget ≡ None
Possible s (passed t) = (tick_refusal s ≡ None) × Told s t

abbrev pub after_all : DayState → List Event → DayState
after_all s [] = s
after_all s (e ∷ es) = after_all (after s e) es

abbrev pub AllPossible : DayState → List Event → Type 0
AllPossible s [] = Unit {0}
AllPossible s (e ∷ es) = Possible s e × AllPossible (after s e) es

-- Some list of accepted calls leads from a fresh day to this one.
abbrev pub Reached : DayState → Type 0
Reached s = (events : List Event) × AllPossible (opened s.rates) events × (after_all (opened s.rates) events ≡ s)
