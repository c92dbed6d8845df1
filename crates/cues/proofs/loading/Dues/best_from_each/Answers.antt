use Rattle.std.proofs.Common.{◌+◌, take, vec_items, sym, subst}
use Rattle.cues.specs.Candidates.{DueLater, BestFrom, Bests}
use Rattle.cues.proofs.Bests.{due-after_release, bests-more}
use Rattle.cues.proofs.loading.Dues.best_from_each.Goals as goal

pub best_from-requires : goal.best_from-requires
best_from-requires c =
    let dues = c.args.self.now.cues.items in
    subst (λ n. DueLater n dues) (sym c.release.ensures)
    (due-after_release c.args.cues.now dues c.loop-cue.cue-index c.cue-item.result c.requires c.loop-cue-test.true c.cue-item.is)

pub loop-cue-preserved : goal.loop-cue-preserved
loop-cue-preserved c =
    let cues = c.args.cues.now in
    let dues = c.args.self.now.cues.items in
    let i = c.loop-cue.cue-index in
    let best = c.in_ok-best_from.field-0 in
    let found = subst (λ n. BestFrom n dues best) c.release.ensures c.in_ok-best_from.ensures in
    subst (Bests (take (i + 1) cues) dues) (sym c.in_ok-push.ensures.items)
    (bests-more cues dues (vec_items c.loop-cue.bests) i c.loop-cue-test.true c.loop-cue.invariant c.cue-item.result best c.cue-item.is found)
