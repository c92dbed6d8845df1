use Rattle.std.proofs.Common.{arith}
use Rattle.scheduler.proofs.KeptPlaces.{good}
use Rattle.scheduler.proofs.day.Day.release.Goals as goal

pub of-requires : goal.of-requires
of-requires g c =
    let day = c.args.self.now in
    omega (arith, c.accept-number.ensures.number, (good day).numbers_low, (good day).budgets_low)
