use Rattle.std.proofs.Common.{◌≡◌, vec_items, ◌∙◌, rules}
use Rattle.rates.specs.Table.{rates_of}
use Rattle.recorder.proofs.Lent.{given_back}
use Rattle.playing.proofs.Evenings.{evening_marks, evening-marked, evening-recorded}
use Rattle.playing.proofs.evening.play_evening.Goals as goal

pub returns-clause-day : goal.returns-clause-day
returns-clause-day g c =
    let plays = c.in_ok-played.ensures.day in
    let closed = c.clock-clock.ensures ∙ c.close.ensures.day in
    let marks = evening_marks (rates_of c.args.table) c.args.calls.now (vec_items c.in_ok-played.played.replies) c.clock-clock.result in
    let back = given_back c.close.new.trace marks c.over-trace.ensures (evening-marked _ _ _ _ _ _ _ _ _ _ plays closed c.close.ensures.trace) in
    let given : _ ≡ c.close.new.trace.words.now = search rules in
    evening-recorded _ _ _ c.args.words.now _ _ _ _ _ _ _ _ _ c.over-trace.ensures plays closed (given ∙ back.1) (c.into_written.ensures.count ∙ back.2)
