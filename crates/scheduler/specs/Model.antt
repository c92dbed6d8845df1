-- What an open day means.
use Rattle.scheduler.specs.declared.day.Day.{Day}
use Rattle.scheduler.specs.Day.{DayState}
use Rattle.scheduler.specs.Held.{held}

-- The state of the day that the rules speak of.
abbrev pub model : Day → DayState
model d =
    held d.table d.clock d.accepted d.budgets d.pending d.handed
