use Rattle.std.proofs.Common.{IfOk, ◌≡◌, vec_items, subst, rules}
use Rattle.std.proofs.lemmas.Iterator.{YieldsList-from_slice, YieldsList-from_map, items_from_collect}
use Rattle.std.proofs.lemmas.Iterator.Search.{YieldsList-from_take_while}
use Rattle.words.specs.declared.Kind.TheVariants.{Rate}
use Rattle.words.specs.Words.{is, payload}
use Rattle.heading.proofs.RateSteps.{rates_while}
use Rattle.heading.proofs.rates_at_front.Goals as goal

pub returns : goal.returns
returns c =
    let words = c.args.words.now in
    subst (λ items. IfOk c.collect.result (λ rates. vec_items rates ≡ items)) (rates_while words)
    (items_from_collect c.collect.result c.collect.ensures.ran
    (YieldsList-from_map _ payload
    (YieldsList-from_take_while _ (is Rate) (YieldsList-from_slice words (search rules)) (search rules) (search rules) (λ x b q k. search rules))
    (search rules) (λ x r q k. search rules)))
