-- Worked examples of the definitions: six jobs of an evening, loading factors, levels, bounds, endings and admission.
use Rattle.std.specs.Prelude.{◌≡◌, ℕ, List, [], ◌∷◌, ◌++◌, map, replicate, Some, None, Option}
use Rattle.std.specs.Option.{option_map}
use Rattle.cues.specs.Demand.{Job, Feasible, Overloaded}
use Rattle.cues.specs.Loading.{Loading}
use Rattle.rates.specs.Policy.{least, LeastExamples}
use Rattle.renderers.specs.declared.answer.Answer.{Answer}
use Rattle.renderers.specs.declared.answer.Answer.TheVariants as answer
use Rattle.renderers.specs.Tape.{taped}
use Rattle.words.specs.Words.{word}
use Rattle.words.specs.declared.Kind.TheVariants as kind
use Rattle.calls.specs.declared.ticked.Ticked.TheVariants.{Ran as ran}
use Rattle.calls.specs.declared.ticked.Turn.TheVariants.{Start}
use Rattle.calls.specs.declared.ticked.Ending.{Ending}
use Rattle.calls.specs.declared.ticked.Ending.TheVariants as ending
use Rattle.runs.specs.ReferenceRun.{Accepted, released, ticked, run, fresh}
use Rattle.scheduler.specs.Day.{DayState, opened, first_job, bound_of, Event, arrived, passed, after_all, AllPossible}

-- A job with its release, deadline and budget.
abbrev pub job : ℕ → ℕ → ℕ → Job
job release deadline budget = record { release = release; deadline = deadline; budget = budget }

abbrev ticks : ℕ → List Accepted
ticks n = replicate n ticked

-- Six jobs are accepted at the clocks 0, 3, 6, 10, 11 and 20, and the run goes on to 30.
abbrev evening : List Accepted
evening =
    released 7 4
    ∷ ticks 3
    ++ released 15 6
    ∷ ticks 3
    ++ released 9 2
    ∷ ticks 4
    ++ released 18 4
    ∷ ticks 1
    ++ released 30 7
    ∷ ticks 9
    ++ released 26 4
    ∷ ticks 10

-- Their ends in the reference run, by job number.
abbrev pub ReferenceEnds : Type 0
ReferenceEnds =
    map (λ r. r.end) (run fresh evening).rows
    ≡ (Some 4 ∷ Some 12 ∷ Some 8 ∷ Some 16 ∷ Some 27 ∷ Some 24 ∷ [])

-- The loading factor of these jobs in the order of their sheet, and of three jobs that demand more than there is time for.
abbrev pub LoadingFactors : Type 0
LoadingFactors =
    Loading (job 0 7 4 ∷ job 6 9 2 ∷ job 3 15 6 ∷ job 10 18 4 ∷ job 20 26 4 ∷ job 11 30 7 ∷ []) 27 30 0 30
    × Loading (job 3 18 4 ∷ job 5 12 4 ∷ job 6 14 6 ∷ []) 10 9 5 14

-- Some interval demands more of these three than it has, so that they are refused.
abbrev pub CrowdedOut : Type 0
CrowdedOut = Overloaded (job 3 18 4 ∷ job 5 12 4 ∷ job 6 14 6 ∷ [])

-- A table with one level, at 14 units a tick.
abbrev one_level : DayState
one_level = opened (14 ∷ [])

-- A tick that starts job 1 with this bound, and what the renderer answered and it told of an ending.
abbrev started : ℕ → Answer → Option Ending → Event
started bound given told =
    passed
    (ran
    (record {
      job = 1;
      switch = Some (record { aside = None; turn = Start; level = record { 0 = 1 }; bound = bound });
      rate = 14;
      answer = given;
      ending = told;
    }))

-- A tick in which job 1 goes on.
abbrev went_on : Answer → Option Ending → Event
went_on given told = passed (ran (record { job = 1; switch = None; rate = 14; answer = given; ending = told }))

-- The calls may be answered so, the clock is this one after them, and the job that the next tick chooses has this bound.
abbrev LeadsTo : List Event → ℕ → Option ℕ → Type 0
LeadsTo es clock bound =
    AllPossible one_level es
    × ((after_all one_level es).clock ≡ clock)
    × (option_map (bound_of (after_all one_level es)) (first_job (after_all one_level es).pending) ≡ bound)

-- A job due at 10 with a budget of 5 is finished at 1, and hands on its bound 5. A release at 1 with a budget of 2 builds on
-- that if it is due at 10, and starts from the clock if it is due at 9.
abbrev pub HandedBounds : Type 0
HandedBounds =
    LeadsTo (arrived 10 5 ∷ started 5 answer.Finished (Some ending.Finished) ∷ arrived 10 2 ∷ []) 1 (Some 7)
    × LeadsTo (arrived 10 5 ∷ started 5 answer.Finished (Some ending.Finished) ∷ arrived 9 2 ∷ []) 1 (Some 3)

-- A budget of 2 at the top rate is cut at 2 where the renderer goes on running, and is finished where it says so in that
-- last tick. No job is pending then.
abbrev pub LastTicks : Type 0
LastTicks =
    LeadsTo (arrived 10 2 ∷ started 2 answer.Running None ∷ went_on answer.Running (Some ending.Cut) ∷ []) 2 None
    × LeadsTo (arrived 10 2 ∷ started 2 answer.Running None ∷ went_on answer.Finished (Some ending.Finished) ∷ []) 2 None

-- A job with a budget of 2 runs twice at the top rate, answered by a tape, and is over then.
abbrev TwoTicks : List ℕ → Ending → Type 0
TwoTicks tape over = LeadsTo (arrived 10 2 ∷ started 2 (taped tape 0) None ∷ went_on (taped tape 1) (Some over) ∷ []) 2 None

-- On an empty tape it is cut at 2, and it is finished where the tape says so in that last tick.
abbrev pub TapedTicks : Type 0
TapedTicks = TwoTicks [] ending.Cut × TwoTicks (word kind.Edition 0 ∷ word kind.Finished 0 ∷ []) ending.Finished

-- From 0 to 3 a budget of 3 fits, and one of 4 does not.
abbrev pub Admissions : Type 0
Admissions = Feasible (job 0 3 3 ∷ []) × Overloaded (job 0 3 4 ∷ [])

abbrev pub WorkedExamples : Type 0
WorkedExamples = ReferenceEnds × LoadingFactors × LeastExamples least × HandedBounds × LastTicks × Admissions × CrowdedOut × TapedTicks
