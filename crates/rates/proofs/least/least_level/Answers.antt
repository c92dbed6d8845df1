use Rattle.std.proofs.Common.{Some, None, rules}
use Rattle.rates.specs.Table.{rates_of}
use Rattle.rates.proofs.Levels.{least_found}
use Rattle.rates.proofs.least.least_level.Goals as goal

pub returns-in_err-place : goal.returns-in_err-place
returns-in_err-place c =
    let found = rw c.as_slice.ensures.rates at c.in_err-place.ensures in
    let least = least_found (rates_of c.args.table.now) c.args.work.remaining c.args.work.ticks None c.as_slice.ensures.lawful found in
    rw c.from_residual.ensures (search rules)

pub returns : goal.returns
returns c =
    let found = rw c.as_slice.ensures.rates at c.in_ok-place.ensures in
    let least = least_found (rates_of c.args.table.now) c.args.work.remaining c.args.work.ticks (Some c.in_ok-place.place) c.as_slice.ensures.lawful found in
    search rules
