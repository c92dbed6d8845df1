-- The refusals of a day's calls: for each case its number and its value.
use Rattle.std.specs.Prelude.{ℕ}
use Rattle.cues.specs.Refusals as cue
use Rattle.calls.specs.declared.refusal.Refusal.{Refusal}
use Rattle.calls.specs.declared.refusal.Refusal.TheVariants.{Job, Pending, Budgets, Clock, Room}

-- A job that is no cue is refused with the number of the cue's refusal: 3 for its budget, 4 for its deadline.
abbrev pub number_of : Refusal → ℕ
number_of (Job cause) = cue.number_of cause
number_of (Pending most) = 5
number_of (Budgets sum) = 6
number_of (Clock clock) = 7
number_of (Room free) = 8

-- The budget or the deadline that was asked for, the 64 jobs that are pending, the sum of the budgets accepted before, the
-- clock, or the number of free words.
abbrev pub value_of : Refusal → ℕ
value_of (Job cause) = cue.value_of cause
value_of (Pending most) = most
value_of (Budgets sum) = sum
value_of (Clock clock) = clock
value_of (Room free) = free
