use Rattle.std.proofs.Common.{◌≡◌, ℕ, ◌≤◌, List, [], length, None, vec_items}
use Rattle.script.specs.Reading.{calls_from}
use Rattle.script.proofs.read_calls.Given as goal

abbrev pub invariant-loop-calls : goal.invariant-loop-calls
invariant-loop-calls l =
    (l.ticks ≤ 1000000)
    × ((rates : List ℕ) → calls_from l.first.place rates [] 0 None l.first.words.now ≡ calls_from l.left.place rates (vec_items l.calls) l.ticks None l.left.words.now)

abbrev pub decreases-loop-calls : goal.decreases-loop-calls
decreases-loop-calls l = length l.left.words.now
