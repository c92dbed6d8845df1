use Rattle.std.proofs.Common.{arith}
use Rattle.rates.specs.Table.{rates_of}
use Rattle.rates.proofs.Levels.{sufficient_above}
use Rattle.rates.proofs.Tables.{table_is_lawful}
use Rattle.rates.proofs.floor.FloorPolicy.choose.Goals as goal

pub returns-clause-meaning : goal.returns-clause-meaning
returns-clause-meaning g c =
    let inner = c.in_ok-answer.ensures.meaning in
    sufficient_above (rates_of c.args.table.now) c.args.work.remaining c.args.work.ticks c.in_ok-answer.answer.0 c.raised.result.0
    (table_is_lawful c.args.table.now) inner (omega (arith, c.raised.ensures))
    (omega (arith, c.raised.ensures, inner.in_table))
