-- Calls beside their answers, and what comes of playing them all on a fresh day.
use Rattle.std.specs.Prelude.{◌≡◌, ℕ, ◌+◌, ◌≤◌, min, true, List, [], ◌∷◌, length, None, Ok, Err, Option, Result}
use Rattle.recorder.specs.Page.{Page, marked_all, room}
use Rattle.renderers.specs.declared.answer.Answer.{Answer}
use Rattle.renderers.specs.declared.heard.Heard.{Heard}
use Rattle.calls.specs.declared.call.Call.{Call}
use Rattle.calls.specs.declared.call.Reply.{Reply}
use Rattle.calls.specs.declared.call.Reply.TheVariants.{Released, Ticked as ticked_reply}
use Rattle.playing.specs.declared.play.PlayError.{PlayError}
use Rattle.playing.specs.declared.play.PlayError.TheVariants.{Refused as refused, NoMemory}
use Rattle.calls.specs.declared.refusal.Refusal.{Refusal}
use Rattle.scheduler.specs.Day.{DayState, opened}
use Rattle.scheduler.specs.Marks.{opening_marks}
use Rattle.scheduler.specs.Law.{Exchange, Safe}
use Rattle.scheduler.specs.Outcomes.{Refused, Asked, Run, opening_refusal}
use Rattle.playing.specs.Played.{Recorded, Right, next_day, next, AllRight, played, heard_reply, heard_all, busy}

-- Each call with its answer, in their order.
abbrev pub exchanges : List Call → List (Result Reply Refusal) → List Exchange
exchanges [] replies = []
exchanges (call ∷ calls) [] = []
exchanges (call ∷ calls) (reply ∷ replies) = (call, reply) ∷ exchanges calls replies

-- A day and its trace where a day was just opened on a page.
abbrev pub opened_on : List ℕ → Page → Recorded
opened_on rates page = record { day = opened rates; page = marked_all page (opening_marks rates) }

-- Where words are kept, one is free for closing the day.
abbrev pub Closable : Page → Type 0
Closable page = page.keeps ≡ true → 1 ≤ room page

-- One call was answered rightly: the day, the trace and what the renderer has heard are what the answer makes of them.
pub record Answered (s t : Recorded) (heard heard' : Heard) (call : Call) (reply : Result Reply Refusal) : Type 0 where
  pub right : Right s call reply
  pub after : t ≡ next s call reply
  pub asked : heard' ≡ heard_reply heard reply

-- The calls so far were answered rightly, one after the other.
pub record SoFar (s t : Recorded) (heard heard' : Heard) (xs : List Exchange) : Type 0 where
  pub right : AllRight s xs
  pub after : t ≡ played s xs
  pub asked : heard' ≡ heard_all heard xs

-- What the policy was asked in a call: nothing but in a tick.
abbrev pub AskedIn : {P : Type 0} → (P → List ℕ → ℕ → ℕ → Option ℕ → P → Type 0) → DayState → Result Reply Refusal → P → P → Type 0
AskedIn tells day (Ok (Released number)) before after = after ≡ before
AskedIn tells day (Ok (ticked_reply t)) before after = Asked tells day t before after
AskedIn tells day (Err refusal) before after = after ≡ before

-- Each call of a list met the policy as the one before it left it.
abbrev pub AskedThrough :
    {P : Type 0} → (P → List ℕ → ℕ → ℕ → Option ℕ → P → Type 0) → DayState → List Exchange → P → P → Type 0
AskedThrough tells day [] before after = after ≡ before
AskedThrough {P} tells day (x ∷ xs) before after =
    (between : P) × AskedIn tells day x.1 before between × AskedThrough tells (next_day day x.0 x.1) xs between after

-- What the renderer was asked in a call: nothing but in a tick.
abbrev pub RunIn : {R : Type 0} → (R → ℕ → ℕ → Answer → R → Type 0) → Result Reply Refusal → R → R → Type 0
RunIn tells (Ok (Released number)) before after = after ≡ before
RunIn tells (Ok (ticked_reply t)) before after = Run tells t before after
RunIn tells (Err refusal) before after = after ≡ before

-- Each call of a list met the renderer as the one before it left it.
abbrev pub RunThrough : {R : Type 0} → (R → ℕ → ℕ → Answer → R → Type 0) → List Exchange → R → R → Type 0
RunThrough tells [] before after = after ≡ before
RunThrough {R} tells (x ∷ xs) before after =
    (between : R) × RunIn tells x.1 before between × RunThrough tells xs between after

-- No call of a list was made: the day did not open for this cause, or memory was wanting. What was handed in is as it was.
abbrev pub NotPlayed : Option Refusal → PlayError → Type 0 → Type 0
NotPlayed cause (refused refusal) As-it-was = Refused cause refusal As-it-was
NotPlayed cause NoMemory As-it-was = As-it-was

-- The day opened, every call has an answer, all answers are right, the day, the trace and what the renderer has heard are what they make of
-- them, and the law holds of the whole list.
pub record Plays (rates : List ℕ) (calls : List Call) (replies : List (Result Reply Refusal)) (page page' : Page) (heard heard' : Heard) (day : DayState) : Type 0 where
  pub granted : opening_refusal page rates ≡ None
  pub all_answered : length replies ≡ length calls
  pub so_far : SoFar (opened_on rates page) (record { day = day; page = page' }) heard heard' (exchanges calls replies)
  pub safe : Safe (exchanges calls replies) day.clock
  -- closing the day fits
  pub closable : Closable page'
  -- each busy tick is one request: from a count of 0 the requests are the busy ticks
  pub requests_from_none : heard.requests ≡ 0 → heard'.requests ≡ busy (exchanges calls replies)
  -- and from any other count they are added to it, up to 4,294,967,295
  pub requests :
      heard.requests ≤ 4294967295 →
      heard'.requests ≡ min (heard.requests + busy (exchanges calls replies)) 4294967295
