use Rattle.std.proofs.Common.{◌≡◌, rules}
use Rattle.std.proofs.lemmas.Iterator.Adapters.{items_from_extend, YieldsList-from_repeat_n}
use Rattle.calls.specs.declared.call.Call.{Call}
use Rattle.calls.specs.declared.call.Call.TheVariants.{Tick}
use Rattle.script.proofs.push_ticks.Goals as goal

pub returns : goal.returns
returns c =
    let h = items_from_extend c.extend.result c.extend.ensures.ran (YieldsList-from_repeat_n (λ (x : Call) (y : Call). y ≡ x) c.args.count Tick (search rules) (search rules) (λ y same. same)) in
    search rules
