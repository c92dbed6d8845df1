-- That a day is good can be shown in one way only: so it follows from a truncated proof that the day is reached.
use Rattle.std.proofs.Common.{ℕ, List, [], ◌∷◌, Some, None, Option}
use native.Mathlib.Bridge.{le_prop}
use mathlib.Core.HLevel.{×_prop, ×₃_prop, Unit-prop}
use mathlib.Core.Logic.{∥∥₁_elim, ∥∥₁_map}
use Rattle.std.specs.List.{AllByRecursion}
use Rattle.rates.specs.Lawful.{Lawful}
use Rattle.scheduler.specs.declared.job.Job.{Job}
use Rattle.scheduler.specs.declared.job.Stage.{Stage}
use Rattle.scheduler.specs.declared.job.Stage.TheVariants.{Waiting, Running, Aside}
use Rattle.runs.specs.NeverBehind.{BoundsHold}
use Rattle.scheduler.specs.Day.{DayState, paced, first_job, Event, after, Possible, Reached}
use Rattle.scheduler.specs.Good.{Numbered, OnPace, GoodJob, ChosenGood, Good}
use Rattle.scheduler.proofs.DayGood.{reached_good, reached_after}

numbered-prop : (low high : ℕ) (js : List Job) → IsProp (Numbered low high js)
numbered-prop low high [] = Unit-prop
numbered-prop low high (j ∷ js) = ×₃_prop le_prop le_prop (numbered-prop j.number high js)

bounds_prop : (clock limit : ℕ) (stage : Stage) → IsProp (BoundsHold clock limit (paced stage))
bounds_prop clock limit Waiting = Unit-prop
bounds_prop clock limit (Running bound level) = ×_prop le_prop le_prop
bounds_prop clock limit (Aside bound noted) = ×₃_prop le_prop le_prop le_prop

on_pace_prop : (rates : List ℕ) (clock remaining : ℕ) (stage : Stage) → IsProp (OnPace rates clock remaining stage)
on_pace_prop rates clock remaining Waiting = Unit-prop
on_pace_prop rates clock remaining (Running bound level) = ×₃_prop le_prop le_prop le_prop
on_pace_prop rates clock remaining (Aside bound noted) = Unit-prop

good_job_prop : (s : DayState) (j : Job) → IsProp (GoodJob s j)
good_job_prop s j =
    λ x y i.
    record {
      some_budget = le_prop x.some_budget y.some_budget i;
      small_budget = le_prop x.small_budget y.small_budget i;
      small_deadline = le_prop x.small_deadline y.small_deadline i;
      some_remains = le_prop x.some_remains y.some_remains i;
      little_remains = le_prop x.little_remains y.little_remains i;
      bounds = bounds_prop _ _ j.stage x.bounds y.bounds i;
      on_pace = on_pace_prop _ _ _ j.stage x.on_pace y.on_pace i;
    }

all_prop : {X : Type 0} (P : X → Type 0) → ((x : X) → IsProp (P x)) → (xs : List X) → IsProp (AllByRecursion P xs)
all_prop P p [] = Unit-prop
all_prop P p (x ∷ xs) = ×_prop (p x) (all_prop P p xs)

chosen_good_prop : (s : DayState) (o : Option Job) → IsProp (ChosenGood s o)
chosen_good_prop s None = Unit-prop
chosen_good_prop s (Some m) = ×₃_prop le_prop le_prop le_prop

pub good_prop : (s : DayState) → IsProp (Good s)
good_prop s =
    λ x y i.
    record {
      clock_low = le_prop x.clock_low y.clock_low i;
      budgets_low = le_prop x.budgets_low y.budgets_low i;
      numbers_low = le_prop x.numbers_low y.numbers_low i;
      handed_low = le_prop x.handed_low y.handed_low i;
      few = le_prop x.few y.few i;
      one_runs = le_prop x.one_runs y.one_runs i;
      numbered = numbered-prop _ _ s.pending x.numbered y.numbered i;
      jobs_good = all_prop (GoodJob s) (good_job_prop s) s.pending x.jobs_good y.jobs_good i;
      chosen_good = chosen_good_prop s (first_job s.pending) x.chosen_good y.chosen_good i;
    }

-- What holds of reached days, from a truncated proof.
pub somehow_reached_good : (s : DayState) → Lawful s.rates → ∥ Reached s ∥₁ → Good s
somehow_reached_good s lawful reached = ∥∥₁_elim reached (good_prop s) (reached_good s lawful)

pub somehow_reached_after : (s : DayState) (e : Event) → ∥ Reached s ∥₁ → Possible s e → ∥ Reached (after s e) ∥₁
somehow_reached_after s e reached p = ∥∥₁_map reached (λ r. reached_after s e r p)
