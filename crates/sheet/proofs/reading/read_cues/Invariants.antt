use Rattle.std.proofs.Common.{◌≡◌, ℕ, List, [], length}
use Rattle.sheet.specs.Reading.{cues_from, none}
use Rattle.sheet.specs.Parts.{entries_of}
use Rattle.sheet.proofs.reading.read_cues.Given as goal

abbrev pub invariant-loop-cues : goal.invariant-loop-cues
invariant-loop-cues l =
    (rates : List ℕ) → cues_from l.first.place rates [] none l.first.words.now ≡ cues_from l.left.place rates (entries_of l.cues) none l.left.words.now

abbrev pub decreases-loop-cues : goal.decreases-loop-cues
decreases-loop-cues l = length l.left.words.now
