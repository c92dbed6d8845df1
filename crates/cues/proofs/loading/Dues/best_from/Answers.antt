use Rattle.std.proofs.Common.{sym, subst}
use Rattle.ordering.specs.First.{First}
use Rattle.cues.specs.Candidates.{BestFrom}
use Rattle.cues.specs.Orders.{candidate_before, candidate_equal}
use Rattle.cues.proofs.Bests.{best_from_first}
use Rattle.cues.proofs.loading.Dues.best_from.Goals as goal

pub returns : goal.returns
returns c =
    let dues = c.args.self.now.cues.items in
    let candidates = c.write_candidates.new.candidates.items in
    let place = c.unwrap-place.result in
    subst (BestFrom c.args.start dues) (sym c.index.ensures)
    (best_from_first c.args.start dues candidates place c.index.result.now c.in_ok-write_candidates.ensures
    (subst (λ xs. First candidate_before candidate_equal xs place) c.as_slice.ensures.value (rw c.unwrap-place.ensures at c.first_of.ensures)))
