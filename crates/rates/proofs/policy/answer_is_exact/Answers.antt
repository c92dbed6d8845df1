use Rattle.rates.specs.Policy.{numbered}
use Rattle.rates.specs.Table.{rates_of}
use Rattle.rates.proofs.Levels.{exact_from_answers}
use Rattle.rates.proofs.Tables.{table_is_lawful}
use Rattle.rates.proofs.policy.answer_is_exact.Goals as goal

pub returns : goal.returns
returns c =
    exact_from_answers (rates_of c.args.table.now) c.args.work.remaining c.args.work.ticks (numbered c.args.answer)
    (table_is_lawful c.args.table.now) c.requires
