use Rattle.std.proofs.Common.{◌≡◌, min}
use Rattle.scheduler.specs.Model.{model}
use Rattle.boundary.proofs.ticks.tick_on.Given as goal

abbrev pub invariant-loop : goal.invariant-loop
invariant-loop l = (model l.day).clock ≡ min l.counter 134217727
