use Rattle.std.proofs.Common.{◌≡◌, length, vec_items, ap, arith, rules}
use Rattle.heading.proofs.RateSteps.{head_read}
use Rattle.heading.proofs.Fronts.{head-counts}
use Rattle.heading.proofs.read_head.Goals as goal

pub returns : goal.returns
returns c =
    let words = c.args.words.now in
    let rates = vec_items c.in_ok-rates.rates in
    let rest = c.behind-rest.result.words.now in
    let file : c.all-file.result.words.now ≡ words = c.all-file.ensures.words in
    let read = head_read words rates rest c.len.result (search rules) (search rules) (search rules) (search rules) in
    let counted = head-counts words (record { rates = rates; rest = rest }) read in
    record { read = read; counted = counted; placed = omega (arith, counted, c.len.ensures, c.in_ok-rates.rates.ok.0, ap length file) }
