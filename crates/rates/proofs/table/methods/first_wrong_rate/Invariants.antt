use Rattle.std.proofs.Common.{◌≡◌, drop}
use Rattle.rates.specs.Judged.{first_wrong}
use Rattle.rates.proofs.table.methods.first_wrong_rate.Given as goal

-- What is left of the list decides as the whole list does.
abbrev pub invariant-loop-place : goal.invariant-loop-place
invariant-loop-place l = first_wrong l.before l.place (drop l.place l.rates) ≡ first_wrong 0 0 l.rates
