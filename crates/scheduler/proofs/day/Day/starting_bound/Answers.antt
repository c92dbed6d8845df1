use Rattle.std.proofs.Common.{◌≡◌, ℕ, ◌+◌, ◌≤◌, Bool, true, false, cond, is_some, sym, refl, ap, ◌∙◌, arith}
use Rattle.std.proofs.lemmas.Bool.{cond_both}
use Rattle.scheduler.specs.declared.day.Day.{Day}
use Rattle.scheduler.specs.declared.job.Job.{Job}
use Rattle.scheduler.specs.Chooses.{free_from, starting_bound}
use Rattle.scheduler.specs.Model.{model}
use Rattle.runs.specs.SlowRun.{chosen_bound, waiting}
use Rattle.scheduler.proofs.KeptPlaces.{good, kept_somebody}
use Rattle.scheduler.proofs.day.Day.starting_bound.Goals as goal

-- The bound of a job that starts, by whether a place is kept for a job that ran.
starting :
    (d : Day) (j : Job) (somebody : Bool) → somebody ≡ is_some d.running →
    starting_bound (model d) j
    ≡ chosen_bound waiting somebody d.clock d.handed.bound d.handed.deadline j.budget j.deadline
starting d j somebody e =
    ap (λ b. chosen_bound waiting b d.clock d.handed.bound d.handed.deadline j.budget j.deadline)
    (kept_somebody d j ∙ sym e)

counted : (b : Bool) (m n budget : ℕ) → cond b m n + budget ≡ cond b (m + budget) (n + budget)
counted true m n budget = refl
counted false m n budget = refl

-- That clock is the day's or the handed bound.
free_from_low : (d : Day) (j : Job) → free_from (model d) j ≤ d.clock + d.budgets
free_from_low d j =
    cond_both _ d.clock d.handed.bound (λ n. n ≤ d.clock + d.budgets) (λ _. omega arith) (λ _. (good d).handed_low)

pub overflow_add-result : goal.overflow_add-result
overflow_add-result c = omega (arith, (good c.args.self.now).clock_low)

pub returns-then-is_some : goal.returns-then-is_some
returns-then-is_some c = sym (starting c.args.self.now c.args.job.now true c.if-is_some.ensures)

pub overflow_add-result-2 : goal.overflow_add-result-2
overflow_add-result-2 c =
    let day = c.args.self.now in
    omega (arith, c.free_from.ensures, free_from_low day c.args.job.now, (good day).clock_low, (good day).budgets_low)

pub returns : goal.returns
returns c =
    let day = c.args.self.now in
    let job = c.args.job.now in
    ap (λ n. n + job.budget) c.free_from.ensures
    ∙ counted _ day.clock day.handed.bound job.budget
    ∙ sym (starting day job false c.if-is_some.ensures)
