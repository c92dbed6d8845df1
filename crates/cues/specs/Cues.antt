-- What a cue is asked for, and the job that it is.
use Rattle.std.specs.Prelude.{◌≡◌, ℕ, cond, ◌&&◌, List, map, Some, None, Option, nat_le, nat_lt}
use Rattle.cues.specs.declared.cue.Cue.{Cue}
use Rattle.cues.specs.declared.refusal.CueRefusal.{CueRefusal}
use Rattle.cues.specs.declared.refusal.CueRefusal.TheVariants.{Budget, Deadline}
use Rattle.cues.specs.Demand.{Job}

-- Why no cue has these numbers, the budget first: it is 1 to 65,535, and the deadline is after the release and at most 134,217,727.
abbrev pub cue_refusal : ℕ → ℕ → ℕ → Option CueRefusal
cue_refusal release deadline budget =
    cond (nat_le 1 budget && nat_le budget 65535)
    (cond (nat_lt release deadline && nat_le deadline 134217727) None (Some (Deadline deadline)))
    (Some (Budget budget))

-- The cue has these four numbers.
pub record Holds (c : Cue) (release deadline budget actual : ℕ) : Type 0 where
  pub release_is : c.release ≡ release
  pub deadline_is : c.deadline ≡ deadline
  pub budget_is : c.budget ≡ budget
  pub actual_is : c.actual ≡ actual

-- The work that a cue asks for.
abbrev pub job_of : Cue → Job
job_of c = record { release = c.release; deadline = c.deadline; budget = c.budget }

-- The work that the cues of a list ask for, in their order.
abbrev pub jobs_of : List Cue → List Job
jobs_of cues = map job_of cues
