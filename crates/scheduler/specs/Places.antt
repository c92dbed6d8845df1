-- Where the first pending job and the one that ran stand among the pending jobs.
use Rattle.std.specs.Prelude.{ℕ, suc, Bool, cond, ◌&&◌, ◌||◌, List, [], ◌∷◌, map, Some, None, Option, ◌==◌, nat_le, nat_lt, slice_index_or}
use Rattle.std.specs.Option.{option_map}
use Rattle.scheduler.specs.declared.job.Job.{Job}
use Rattle.scheduler.specs.Day.{runs}

-- The job that is due earlier is first, and of those due together the one with the smaller number.
abbrev pub job_before : Job → Job → Bool
job_before x y = nat_lt x.deadline y.deadline || (x.deadline == y.deadline && nat_lt x.number y.number)

-- The two have the same deadline and the same number.
abbrev pub job_equal : Job → Job → Bool
job_equal x y = x.deadline == y.deadline && x.number == y.number

-- The place of the smallest number of a list, of equal ones the earliest; 0 where there is none.
abbrev pub smallest_place : List ℕ → ℕ
smallest_place [] = 0
smallest_place (n ∷ ns) = cond (nat_le n (slice_index_or ns (smallest_place ns) n)) 0 (suc (smallest_place ns))

-- The place of the smallest deadline, ties to the earlier place; 0 where there is no job.
abbrev pub due_place : List Job → ℕ
due_place js = smallest_place (map (λ j. j.deadline) js)

-- The place of the first job by deadline, ties to the earlier place, if there is one.
abbrev pub first_place : List Job → Option ℕ
first_place [] = None
first_place (j ∷ js) = Some (due_place (j ∷ js))

-- The place of the job that ran in the tick before, if there is one.
abbrev pub runner_place : List Job → Option ℕ
runner_place [] = None
runner_place (j ∷ js) = cond (runs j) (Some 0) (option_map suc (runner_place js))
