use Rattle.std.proofs.Common.{◌≤◌}
use Rattle.boundary.specs.Rounds.{Demands}
use Rattle.boundary.proofs.demand_after.Given as goal

abbrev pub invariant-loop : goal.invariant-loop
invariant-loop l = 1 ≤ l.counter → Demands l.sheet l.demand
