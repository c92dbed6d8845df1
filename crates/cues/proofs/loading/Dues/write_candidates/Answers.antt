use Rattle.std.proofs.Common.{◌++◌, ap, ◌∙◌, rules, tests, arith}
use Rattle.std.specs.List.{scan}
use Rattle.std.proofs.lemmas.Iterator.{YieldsList-from_slice}
use Rattle.std.proofs.lemmas.Iterator.Consumers.{YieldsList-from_scan}
use Rattle.std.proofs.lemmas.Iterator.Adapters.{items_from_extend}
use Rattle.std.proofs.lemmas.Result.{on_ok_weaker}
use Rattle.cues.proofs.Writing.{sum_after, ending_at, all-written}
use Rattle.cues.proofs.loading.Dues.write_candidates.Goals as goal

pub returns : goal.returns
returns c =
    let start = c.args.start in
    let dues = c.args.self.now.cues in
    let later = c.after.ensures in
    let items = items_from_extend c.extend.result c.extend.ensures.ran
    (YieldsList-from_scan _ (sum_after start) (ending_at start) 0 (YieldsList-from_slice c.after.result.now cc) c.scan.ensures.state c.scan.ensures.closure (λ b x r q d k. search (rules, tests))) in
    on_ok_weaker c.extend.result
    (λ all. all-written start dues.items later.0 later.1 c.extend.new.self.items (omega (arith, c.args.self.now.few, dues.ok.0))
    (all.0 ∙ ap (λ xs. xs ++ scan (sum_after start) (ending_at start) 0 c.after.result.now) c.clear.ensures.items ∙ ap (scan (sum_after start) (ending_at start) 0) later.2))
    items
