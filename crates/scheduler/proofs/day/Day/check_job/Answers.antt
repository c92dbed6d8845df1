use Rattle.std.proofs.Common.{sym, arith}
use Rattle.scheduler.proofs.KeptPlaces.{good}
use Rattle.scheduler.proofs.Refines.{is-cue}
use Rattle.scheduler.proofs.day.Day.check_job.Goals as goal

pub overflow_add-self : goal.overflow_add-self
overflow_add-self c =
    let day = c.args.self.now in
    let cue = is-cue _ c.args.deadline c.args.budget (sym c.in_ok-check.ensures) in
    omega (arith, (good day).budgets_low, cue.small_budget)
