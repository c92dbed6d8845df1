use Rattle.std.proofs.Common.{subst}
use Rattle.cues.specs.Candidates.{Bests, FirstOfBests}
use Rattle.cues.specs.CueLists.{cues_of}
use Rattle.cues.proofs.Factor.{loading_from_bests}
use Rattle.cues.proofs.list.CueList.loading_factor.Goals as goal

pub returns : goal.returns
returns c =
    let dues = c.in_ok-dues.dues.cues.items in
    let bests = c.in_ok-bests.bests.items in
    let r = c.first_of_bests.result in
    let kept = subst (λ xs. Bests xs dues bests) c.as_slice.ensures c.in_ok-bests.ensures in
    let answer = subst (λ xs. FirstOfBests xs r) c.as_slice-2.ensures.value c.first_of_bests.ensures in
    loading_from_bests (cues_of c.args.self.now) dues bests r c.in_ok-dues.ensures kept answer
