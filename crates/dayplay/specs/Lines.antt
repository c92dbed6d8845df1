-- The line that tells of a call.
use Rattle.std.specs.Prelude.{ℕ, List, [], ◌++◌, Some, None, Ok, Err, codes, decimal, Option, Result}
use Rattle.calls.specs.Refusals.{number_of, value_of}
use Rattle.calls.specs.declared.call.Reply.{Reply}
use Rattle.calls.specs.declared.call.Reply.TheVariants.{Released, Ticked as a_tick}
use Rattle.calls.specs.declared.refusal.Refusal.{Refusal}
use Rattle.calls.specs.declared.ticked.Ticked.{Ticked}
use Rattle.calls.specs.declared.ticked.Ticked.TheVariants.{Idle, Ran as a_run}
use Rattle.calls.specs.declared.ticked.Switch.{Switch}
use Rattle.calls.specs.declared.ticked.Turn.{Turn}
use Rattle.calls.specs.declared.ticked.Turn.TheVariants.{Start, Resume}
use Rattle.calls.specs.declared.ticked.Ending.{Ending}
use Rattle.calls.specs.declared.ticked.Ending.TheVariants.{Finished, Cut, Failed}

-- A refusal is told by its number and its value.
abbrev pub refused_line : ℕ → ℕ → List ℕ
refused_line number value = codes "refused " ++ (decimal number ++ (codes " " ++ decimal value))

-- The job that was set aside, if one was.
abbrev pub aside_part : Option ℕ → List ℕ
aside_part None = []
aside_part (Some job) = codes " aside " ++ decimal job

-- A job starts once; later it is resumed.
abbrev pub turn_part : Turn → List ℕ
turn_part Start = codes " start"
turn_part Resume = codes " resume"

-- A switch tells who was set aside, whether the job starts, its level and its bound.
abbrev pub switch_part : Option Switch → List ℕ
switch_part None = []
switch_part (Some s) =
    aside_part s.aside ++ (turn_part s.turn ++ (codes " level " ++ (decimal s.level.0 ++ (codes " bound " ++ decimal s.bound))))

-- What came of the tick: the ending, or the job is still running.
abbrev pub ending_part : Option Ending → List ℕ
ending_part None = codes " running"
ending_part (Some Finished) = codes " finished"
ending_part (Some Cut) = codes " cut"
ending_part (Some (Failed code)) = codes " failed " ++ decimal code

abbrev pub tick_line : Ticked → List ℕ
tick_line Idle = codes "idle"
tick_line (a_run ran) =
    codes "job " ++ (decimal ran.job ++ (switch_part ran.switch ++ (codes " rate " ++ (decimal ran.rate ++ ending_part ran.ending))))

-- The line of a call.
abbrev pub line_of : Result Reply Refusal → List ℕ
line_of (Ok (Released job)) = codes "release " ++ decimal job
line_of (Ok (a_tick ticked)) = tick_line ticked
line_of (Err refusal) = refused_line (number_of refusal) (value_of refusal)
