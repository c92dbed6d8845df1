-- The law over whole runs: a slowed day is never behind the full-speed reference run. It speaks of the list of calls and
-- their answers alone.
use Rattle.std.specs.Prelude.{◌≡◌, ℕ, ◌+◌, ◌-◌, ◌≤◌, Bool, false, cond, ◌&&◌, ◌↔◌, List, [], ◌∷◌, length, is_some, Some, None, Ok, Err, Option, Result, ◌==◌, slice_index_or}
use Rattle.cues.specs.Demand.{Feasible, Overloaded}
use Rattle.calls.specs.declared.call.Call.{Call}
use Rattle.calls.specs.declared.call.Call.TheVariants.{Release, Tick}
use Rattle.calls.specs.declared.call.Reply.{Reply}
use Rattle.calls.specs.declared.call.Reply.TheVariants.{Released, Ticked as ticked_reply}
use Rattle.calls.specs.declared.refusal.Refusal.{Refusal}
use Rattle.calls.specs.declared.ticked.Ticked.{Ticked}
use Rattle.calls.specs.declared.ticked.Ticked.TheVariants.{Idle, Ran as ran}
use Rattle.calls.specs.declared.ticked.Switch.{Switch}
use Rattle.runs.specs.ReferenceRun.{Accepted, released, ticked, Row, Reference, run, fresh}
use Rattle.runs.specs.Deadlines.{jobs, last_deadline, OverBy, Misses}

-- A call and its answer.
abbrev pub Exchange : Type 0
Exchange = Call × Result Reply Refusal

-- The accepted call of an exchange, if it was accepted.
abbrev pub accepted_call : Call → Result Reply Refusal → Option Accepted
accepted_call (Release deadline budget) (Ok (Released number)) = Some (released deadline budget)
accepted_call (Release deadline budget) (Ok (ticked_reply t)) = None
accepted_call (Release deadline budget) (Err refusal) = None
accepted_call Tick (Ok (Released number)) = None
accepted_call Tick (Ok (ticked_reply t)) = Some ticked
accepted_call Tick (Err refusal) = None

abbrev pub and_then : Option Accepted → List Accepted → List Accepted
and_then None rest = rest
and_then (Some call) rest = call ∷ rest

-- The calls that were accepted, in their order.
abbrev pub accepted_calls : List Exchange → List Accepted
accepted_calls [] = []
accepted_calls (x ∷ xs) = and_then (accepted_call x.0 x.1) (accepted_calls xs)

-- The reference run of the calls that were accepted.
abbrev pub reference : List Exchange → Reference
reference xs = run fresh (accepted_calls xs)

-- The tick told the ending of this job.
abbrev pub ends_job : ℕ → Ticked → Bool
ends_job n Idle = false
ends_job n (ran r) = r.job == n && is_some r.ending

-- The bound that the tick set for this job, if it switched to it.
abbrev pub bound_in : Option Switch → Option ℕ
bound_in None = None
bound_in (Some switch) = Some switch.bound

abbrev pub bound_set : ℕ → Ticked → Option ℕ
bound_set n Idle = None
bound_set n (ran r) = cond (r.job == n) (bound_in r.switch) None

abbrev pub or_else : Option ℕ → Option ℕ → Option ℕ
or_else None old = old
or_else (Some new) old = Some new

-- The clock after an answered call.
abbrev pub clock_past : ℕ → Result Reply Refusal → ℕ
clock_past clock (Ok (Released number)) = clock
clock_past clock (Ok (ticked_reply t)) = clock + 1
clock_past clock (Err refusal) = clock

-- The end that the answer tells of this job: the clock after the tick that told its ending.
abbrev pub end_told : ℕ → ℕ → Result Reply Refusal → Option ℕ
end_told n clock (Ok (Released number)) = None
end_told n clock (Ok (ticked_reply t)) = cond (ends_job n t) (Some (clock + 1)) None
end_told n clock (Err refusal) = None

abbrev pub bound_told : ℕ → Result Reply Refusal → Option ℕ
bound_told n (Ok (Released number)) = None
bound_told n (Ok (ticked_reply t)) = bound_set n t
bound_told n (Err refusal) = None

-- The end of a job in the day, from a clock on.
abbrev pub end_from : ℕ → ℕ → List Exchange → Option ℕ
end_from n clock [] = None
end_from n clock (x ∷ xs) = or_else (end_told n clock x.1) (end_from n (clock_past clock x.1) xs)

abbrev pub day_end : ℕ → List Exchange → Option ℕ
day_end n xs = end_from n 0 xs

-- The last bound of a job in the day: the one that the last switch to it set.
abbrev pub last_bound : ℕ → List Exchange → Option ℕ
last_bound n [] = None
last_bound n (x ∷ xs) = or_else (last_bound n xs) (bound_told n x.1)

-- The job of this number is over in the day at or before its last bound, and that is at or before its reference end.
abbrev pub OverInTime : Option ℕ → Option ℕ → ℕ → Type 0
OverInTime None bound reference-end = ⊥
OverInTime (Some end) None reference-end = ⊥
OverInTime (Some end) (Some bound) reference-end = (end ≤ bound) × (bound ≤ reference-end)

-- Job n of the reference run is this one.
abbrev pub IsJob : Reference → ℕ → Row → Type 0
IsJob s n r = (1 ≤ n) × (n ≤ length s.rows) × (slice_index_or s.rows (n - 1) r ≡ r)

-- The law, of a list of calls with their answers on a fresh day, and the day's clock after it.
pub record Safe (xs : List Exchange) (clock : ℕ) : Type 0 where
  -- both clocks are equal
  pub same_clock : clock ≡ (reference xs).clock
  -- each job over in the reference run is over in the day, its end at or before its last bound, and that at or before its
  -- reference end
  pub never_behind :
      (n : ℕ) (r : Row) → IsJob (reference xs) n r → (e : ℕ) → r.end ≡ Some e → OverInTime (day_end n xs) (last_bound n xs) e
  -- if no interval demands more ticks than it has, no job of either run is unended at its deadline
  pub in_time :
      Feasible (jobs (reference xs)) →
      (n : ℕ) (r : Row) →
      IsJob (reference xs) n r →
      r.job.deadline ≤ clock →
      OverBy r.job.deadline r.end × OverBy r.job.deadline (day_end n xs)
  -- once the clock is at or past the last deadline, the reference run has missed a job exactly when some interval demands
  -- more ticks than it has
  pub missed_exactly : last_deadline (jobs (reference xs)) ≤ clock → Misses (reference xs) ↔ Overloaded (jobs (reference xs))
