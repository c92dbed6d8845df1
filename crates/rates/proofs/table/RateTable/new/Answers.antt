use Rattle.std.proofs.Common.{◌≡◌, sym, subst, rules}
use Rattle.std.specs.Result.{result_err}
use Rattle.rates.proofs.Tables.{verdict, lawful_when_not_refused}
use Rattle.rates.specs.Judged.{judged, Verdict}
use Rattle.rates.proofs.table.RateTable.new.Goals as goal

pub returns-in_err-check-clause-verdict : goal.returns-in_err-check-clause-verdict
returns-in_err-check-clause-verdict c =
    let is : result_err c.from_residual.result ≡ judged c.args.rates.now = search rules in subst (Verdict c.args.rates.now) (sym is) (verdict c.args.rates.now)

pub invariant_of-result : goal.invariant_of-result
invariant_of-result c =
    let lawful = lawful_when_not_refused c.args.rates.now (sym c.in_ok-check.ensures) in
    rw c.padded.ensures (record {
      places = search rules;
      some = lawful.some;
      few = lawful.few;
      positive = lawful.positive;
      limited = lawful.limited;
      rising = lawful.rising;
    })
