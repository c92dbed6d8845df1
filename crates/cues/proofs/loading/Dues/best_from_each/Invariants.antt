use Rattle.std.proofs.Common.{take, vec_items}
use Rattle.cues.specs.Candidates.{Bests}
use Rattle.cues.proofs.loading.Dues.best_from_each.Given as goal

abbrev pub invariant-loop-cue : goal.invariant-loop-cue
invariant-loop-cue l = Bests (take l.cue-index l.cues) l.self.cues.items (vec_items l.bests)
