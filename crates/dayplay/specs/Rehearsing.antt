-- What comes of rehearsing a script.
use Rattle.std.specs.Prelude.{◌≡◌, ℕ, ◌<◌, List, length, vec_items, slice_index_or}
use Rattle.rates.specs.Policy.{least}
use Rattle.renderers.specs.declared.answer.Answer.TheVariants.{Running}
use Rattle.renderers.specs.declared.heard.Heard.{Heard}
use Rattle.renderers.specs.Requests.{fresh}
use Rattle.renderers.specs.Tape.{taped}
use Rattle.scheduler.specs.Day.{opened}
use Rattle.scheduler.specs.Law.{Exchange}
use Rattle.playing.specs.Played.{answers, busy}
use Rattle.playing.specs.Exchanges.{AskedThrough, exchanges}
use Rattle.playing.specs.Traces.{RecordedEvening, trace_of}
use Rattle.dayplay.specs.declared.rehearsal.Rehearsal.{Rehearsal}
use Rattle.script.specs.Reading.{Contents}

-- The calls of a script, each beside its answer in the rehearsal.
abbrev pub told : Contents → Rehearsal → List Exchange
told script done = exchanges script.calls (vec_items done.replies)

-- At each switch of a day with these rates the level is the least that suffices.
abbrev pub AtTheLeast : List ℕ → List Exchange → Type 0
AtTheLeast rates xs = AskedThrough {P = Unit {0}} (λ _ table remaining ticks answer _. answer ≡ least table remaining ticks) (opened rates) xs tt tt

-- The n-th tick that ran a job was answered by the n-th word of the tape.
abbrev pub ByTheTape : List ℕ → List Exchange → Type 0
ByTheTape tape xs = (n : ℕ) → n < length (answers xs) → slice_index_or (answers xs) n Running ≡ taped tape n

-- The script was played on a fresh day, recorded in 16,384 lent words, and the day was closed. The law holds of its calls, the
-- levels and answers are those asked for, and the trace is that of the day.
pub record Rehearses (rates : List ℕ) (script : Contents) (done : Rehearsal) : Type 0 where
  pub words : List ℕ
  pub words' : List ℕ
  pub heard : Heard
  pub lent : length words ≡ 16384
  pub evening : RecordedEvening rates script.calls (vec_items done.replies) words words' fresh heard done.clock (length (vec_items done.trace))
  pub levels : AtTheLeast rates (told script done)
  pub answered : ByTheTape script.tape (told script done)
  pub requests : done.requests ≡ busy (told script done)
  pub trace : vec_items done.trace ≡ trace_of rates (told script done) done.clock
