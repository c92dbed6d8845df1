-- What comes of each call of a day: of one that is refused, and of one that is accepted.
use Rattle.std.specs.Prelude.{◌≡◌, ℕ, ◌+◌, List, length, Some, None, Option}
use Rattle.recorder.specs.Page.{Page, marked_all}
use Rattle.calls.specs.declared.refusal.Refusal.{Refusal}
use Rattle.renderers.specs.declared.answer.Answer.{Answer}
use Rattle.renderers.specs.declared.heard.Heard.{Heard}
use Rattle.scheduler.specs.declared.job.Job.{Job}
use Rattle.calls.specs.declared.ticked.Ran.{Ran}
use Rattle.calls.specs.declared.ticked.Ticked.{Ticked}
use Rattle.calls.specs.declared.ticked.Ticked.TheVariants.{Idle, Ran as ran}
use Rattle.renderers.specs.Requests.{heard}
use Rattle.scheduler.specs.Chooses.{Asks}
use Rattle.scheduler.specs.Day.{DayState, opened, released, release_refusal, tick_refusal, first_job, Told, after_tick}
use Rattle.scheduler.specs.Marks.{or_no_room, opening_marks, release_marks, tick_marks}

-- A call was refused for this cause, and what it was handed is as it was.
pub record Refused (cause : Option Refusal) (refusal : Refusal) (As-it-was : Type 0) : Type 0 where
  pub because : cause ≡ Some refusal
  pub unchanged : As-it-was

-- Why a day does not open on a trace: it wants three words more than the table has levels.
abbrev pub opening_refusal : Page → List ℕ → Option Refusal
opening_refusal page rates = or_no_room page (length rates + 3) None

-- A day was opened with this table on a trace: it is fresh, and the trace begins with the edition and the rates.
pub record Opens (rates : List ℕ) (page page' : Page) (day : DayState) : Type 0 where
  pub granted : opening_refusal page rates ≡ None
  pub fresh : day ≡ opened rates
  pub recorded : page' ≡ marked_all page (opening_marks rates)

-- A job was accepted on a day and its trace: nothing refuses it, and it has the next number.
pub record Releases (day day' : DayState) (page page' : Page) (deadline budget number : ℕ) : Type 0 where
  pub granted : or_no_room page 10 (release_refusal day deadline budget) ≡ None
  pub numbered : number ≡ day.accepted + 1
  pub accepted : day' ≡ released day deadline budget
  pub recorded : page' ≡ marked_all page (release_marks number deadline budget)

-- A tick went by on a day and its trace, and told this.
pub record Ticks (day day' : DayState) (page page' : Page) (t : Ticked) : Type 0 where
  pub granted : or_no_room page 10 (tick_refusal day) ≡ None
  pub told : Told day t
  pub passed : day' ≡ after_tick day t
  pub recorded : page' ≡ marked_all page (tick_marks t)

-- What the policy was asked in a tick: at a switch for a level for the first job, and otherwise nothing.
abbrev pub AskedFirst :
    {P : Type 0} → (P → List ℕ → ℕ → ℕ → Option ℕ → P → Type 0) → DayState → Ran → Option Job → P → P → Type 0
AskedFirst tells day r None before after = ⊥
AskedFirst tells day r (Some m) before after = Asks tells day m r.switch before after

abbrev pub Asked : {P : Type 0} → (P → List ℕ → ℕ → ℕ → Option ℕ → P → Type 0) → DayState → Ticked → P → P → Type 0
Asked tells day Idle before after = after ≡ before
Asked tells day (ran r) before after = AskedFirst tells day r (first_job day.pending) before after

-- What the renderer was asked in a tick: to run the job at the rate that the tick tells, with the answer that it tells; in
-- an idle tick nothing.
abbrev pub Run : {R : Type 0} → (R → ℕ → ℕ → Answer → R → Type 0) → Ticked → R → R → Type 0
Run tells Idle before after = after ≡ before
Run tells (ran r) before after = tells before r.job r.rate r.answer after

-- What a renderer has heard after a tick: one request more, where it ran a job.
abbrev pub heard_tick : Heard → Ticked → Heard
heard_tick h Idle = h
heard_tick h (ran r) = heard h r.job r.rate r.answer

pub record Rendered {R : Type 0} (meaning : R → Heard) (tells : R → ℕ → ℕ → Answer → R → Type 0) (t : Ticked) (before after : R) : Type 0 where
  pub heard : meaning after ≡ heard_tick (meaning before) t
  pub run : Run tells t before after
