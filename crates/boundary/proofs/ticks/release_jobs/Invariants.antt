use Rattle.std.proofs.Common.{◌≡◌}
use Rattle.scheduler.specs.Model.{model}
use Rattle.boundary.proofs.ticks.release_jobs.Given as goal

abbrev pub invariant-loop : goal.invariant-loop
invariant-loop l = (model l.day).clock ≡ (model l.initial.day).clock
