use Rattle.std.proofs.Common.{◌+◌, subst, arith}
use Rattle.scheduler.specs.declared.job.Stage.{Stage}
use Rattle.runs.specs.NeverBehind.{BoundsHold}
use Rattle.scheduler.specs.Day.{paced}
use Rattle.scheduler.proofs.KeptPlaces.{good}
use Rattle.scheduler.proofs.day.Day.bound_of.Goals as goal

pub overflow_add-result : goal.overflow_add-result
overflow_add-result c =
    let day = c.args.self.now in
    let held : Stage → Type 0 = λ stage. BoundsHold day.clock (day.clock + day.budgets) (paced stage) in
    let bounds = subst held c.in-Aside.is c.requires.bounds in
    omega (arith, bounds.2, (good day).handed_low, (good day).clock_low, (good day).budgets_low)
