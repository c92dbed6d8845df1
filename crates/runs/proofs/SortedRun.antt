-- Both runs side by side over one list of jobs that is sorted by priority: then the first job with ticks left, and the
-- first pending one, are the first in the list.
use Rattle.std.proofs.Common.{ℕ, zero, suc, ◌+◌, ◌≤◌, Bool, cond, not, leb, List, [], ◌∷◌, map, Some, None, Option}
use Rattle.cues.specs.Demand.{Job}
use Rattle.runs.specs.ReferenceRun.{Row}
use Rattle.runs.specs.SlowRun.{Stage, waiting, running, aside, over, SlowRow, runs, chosen_bound, settled, handed_on}

-- A job in both runs: what it is, its ticks left and its end in the reference run, and its stage in the slowed run.
pub data Both : Type 0 where
  row : Job → ℕ → Option ℕ → Stage → Both

abbrev pub due : Both → ℕ
due (row j l e st) = j.deadline

-- The job as each of the runs has it.
abbrev pub slow_row : Both → SlowRow
slow_row (row j l e st) = record { job = j; stage = st }

abbrev pub reference_row : Both → Row
reference_row (row j l e st) = record { job = j; left = l; end = e }

-- The end of a job that the reference run leaves with so many ticks.
abbrev pub ended : ℕ → ℕ → Option ℕ → Option ℕ
ended after zero e = Some after
ended after (suc l) e = e

-- The reference run's tick: one from the first with ticks left.
abbrev pub serve_first : ℕ → List Both → List Both
serve_first after [] = []
serve_first after (row j zero e st ∷ rs) = row j zero e st ∷ serve_first after rs
serve_first after (row j (suc l) e st ∷ rs) = row j l (ended after l e) st ∷ rs

-- The slowed run's choice.
abbrev pub front : List Both → Option SlowRow
front [] = None
front (row j l e waiting ∷ rs) = Some (record { job = j; stage = waiting })
front (row j l e (running b) ∷ rs) = Some (record { job = j; stage = running b })
front (row j l e (aside b n) ∷ rs) = Some (record { job = j; stage = aside b n })
front (row j l e (over s b) ∷ rs) = front rs

-- A running job is set aside if another is chosen.
abbrev pub yield : Bool → ℕ → Stage → Stage
yield switch t waiting = waiting
yield switch t (running b) = cond switch (aside b t) (running b)
yield switch t (aside b n) = aside b n
yield switch t (over s b) = over s b

abbrev pub yields : Bool → ℕ → Both → Both
yields switch t (row j l e st) = row j l e (yield switch t st)

abbrev pub others : Bool → ℕ → List Both → List Both
others switch t rs = map (yields switch t) rs

-- The first pending job gets a new stage.
abbrev pub put_first : Stage → List Both → List Both
put_first new [] = []
put_first new (row j l e waiting ∷ rs) = row j l e new ∷ rs
put_first new (row j l e (running b) ∷ rs) = row j l e new ∷ rs
put_first new (row j l e (aside b n) ∷ rs) = row j l e new ∷ rs
put_first new (row j l e (over s b) ∷ rs) = row j l e (over s b) ∷ put_first new rs

-- A new job goes behind everything due no later.
abbrev pub insert : Both → List Both → List Both
insert x [] = x ∷ []
insert x (y ∷ ys) = cond (leb (due y) (due x)) (y ∷ insert x ys) (x ∷ y ∷ ys)

-- The tick of the slowed run for the job chosen, at clock t with the handed bound H and deadline D, where somebody runs or
-- not: the chosen job's bound and stage, the rows, whether somebody runs afterwards, and what is handed on.
abbrev pub bound_at : Bool → ℕ → ℕ → ℕ → SlowRow → ℕ
bound_at f t H D m = chosen_bound m.stage f t H D m.job.budget m.job.deadline

abbrev pub stage_at : Bool → Bool → ℕ → ℕ → ℕ → SlowRow → Stage
stage_at early f t H D m = settled early (t + 1) (bound_at f t H D m)

abbrev pub rows_at : Bool → Bool → ℕ → ℕ → ℕ → Option SlowRow → List Both → List Both
rows_at early f t H D None rs = rs
rows_at early f t H D (Some m) rs = put_first (stage_at early f t H D m) (others (not (runs m.stage)) t rs)

abbrev pub runs_at : Bool → Bool → ℕ → ℕ → ℕ → Option SlowRow → Bool
runs_at early f t H D None = f
runs_at early f t H D (Some m) = runs (stage_at early f t H D m)

abbrev pub bound_on : Bool → Bool → ℕ → ℕ → ℕ → Option SlowRow → ℕ
bound_on early f t H D None = H
bound_on early f t H D (Some m) = handed_on (stage_at early f t H D m) (bound_at f t H D m) H

abbrev pub deadline_on : Bool → Bool → ℕ → ℕ → ℕ → Option SlowRow → ℕ
deadline_on early f t H D None = D
deadline_on early f t H D (Some m) = handed_on (stage_at early f t H D m) m.job.deadline D

-- Sorted by priority: nobody below is due before one above.
abbrev pub Ahead : ℕ → List Both → Type 0
Ahead d [] = Unit {0}
Ahead d (r ∷ rs) = (d ≤ due r) × Ahead d rs

abbrev pub Sorted : List Both → Type 0
Sorted [] = Unit {0}
Sorted (r ∷ rs) = Ahead (due r) rs × Sorted rs
