-- Deadlines in the reference run: which calls make a sound run, and which jobs of it are missed.
use Rattle.std.specs.Prelude.{ℕ, ◌+◌, ◌<◌, ◌≤◌, max, List, [], ◌∷◌, map, Some, None, Option}
use Rattle.std.specs.List.{ContainsAt}
use Rattle.cues.specs.Demand.{Job}
use Rattle.runs.specs.ReferenceRun.{Accepted, released, ticked, Row, Reference}

-- From this clock on, every job that is released has a budget, and a deadline that is still to come.
abbrev pub Sound : ℕ → List Accepted → Type 0
Sound clock [] = Unit {0}
Sound clock (released deadline budget ∷ calls) = (1 ≤ budget) × (clock < deadline) × Sound clock calls
Sound clock (ticked ∷ calls) = Sound (clock + 1) calls

-- The jobs of a run, in the order of their numbers.
abbrev pub jobs : Reference → List Job
jobs s = map (λ r. r.job) s.rows

-- The largest deadline of some jobs, 0 where there are none.
abbrev pub last_deadline : List Job → ℕ
last_deadline [] = 0
last_deadline (j ∷ js) = max j.deadline (last_deadline js)

-- With this end a job is over at the clock or earlier; without an end it is not over.
abbrev pub OverBy : ℕ → Option ℕ → Type 0
OverBy clock None = ⊥
OverBy clock (Some end) = end ≤ clock

-- A job is missed: its deadline has come, and it was not over by then.
abbrev pub Missed : ℕ → Row → Type 0
Missed clock r = (r.job.deadline ≤ clock) × ¬ OverBy r.job.deadline r.end

-- Some job of the run is missed.
abbrev pub Misses : Reference → Type 0
Misses s = (r : Row) × ContainsAt s.rows r × Missed s.clock r
