-- A list of cues as its cues in their order, and what a call leaves of it.
use Rattle.std.specs.Prelude.{◌≡◌, ℕ, ◌<◌, ◌≤◌, List, [], ◌∷◌, ◌++◌, length, Some, None, Ok, Err, vec_items, Option, Result, slice_index_or}
use Rattle.cues.specs.declared.cue.Cue.{Cue}
use Rattle.cues.specs.declared.list.CueList.{CueList}
use Rattle.cues.specs.declared.refusal.ListRefusal.{ListRefusal}
use Rattle.cues.specs.declared.refusal.ListRefusal.TheVariants.{Full, NoMemory}

-- The cues of a list.
abbrev pub cues_of : CueList → List Cue
cues_of list = vec_items list.cues

-- One cue more stands at the end, unless the list was full at 1,024 or there was no memory, which leave it as it was.
abbrev pub Pushed : List Cue → Cue → Result Unit ListRefusal → List Cue → Type 0
Pushed old cue (Ok u) new = (length old < 1024) × (new ≡ old ++ cue ∷ [])
Pushed old cue (Err (Full most)) new = (length old ≡ 1024) × (most ≡ 1024) × (new ≡ old)
Pushed old cue (Err NoMemory) new = (length old < 1024) × (new ≡ old)

-- The cue at a place of the list, and none past its end.
abbrev pub Found : List Cue → ℕ → Option Cue → Type 0
Found cues place None = length cues ≤ place
Found cues place (Some c) = (place < length cues) × (slice_index_or cues place c ≡ c)
