use Rattle.std.proofs.Common.{arith}
use Rattle.scheduler.proofs.KeptPlaces.{good}
use Rattle.scheduler.proofs.day.Day.close.Goals as goal

pub of-requires : goal.of-requires
of-requires g c = omega (arith, (good c.args.self).clock_low)
