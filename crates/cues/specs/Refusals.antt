-- The number and the value of each refusal.
use Rattle.std.specs.Prelude.{ℕ, Some, None, Option}
use Rattle.cues.specs.declared.refusal.CueRefusal.{CueRefusal}
use Rattle.cues.specs.declared.refusal.CueRefusal.TheVariants.{Budget, Deadline}
use Rattle.cues.specs.declared.refusal.ListRefusal.{ListRefusal}
use Rattle.cues.specs.declared.refusal.ListRefusal.TheVariants.{Full, NoMemory}

-- A cue is refused with 3 for its budget and with 4 for its deadline.
abbrev pub number_of : CueRefusal → ℕ
number_of (Budget budget) = 3
number_of (Deadline deadline) = 4

-- The number that was refused comes back.
abbrev pub value_of : CueRefusal → ℕ
value_of (Budget budget) = budget
value_of (Deadline deadline) = deadline

-- One cue more is refused with 11 by a full list; the want of memory has no number.
abbrev pub list_number : ListRefusal → Option ℕ
list_number (Full most) = Some 11
list_number NoMemory = None

-- With a full list comes the count that it may hold.
abbrev pub list_value : ListRefusal → Option ℕ
list_value (Full most) = Some most
list_value NoMemory = None
