-- The trace of a whole day, read off the calls and their answers.
use Rattle.std.specs.Prelude.{◌≡◌, ℕ, ◌≤◌, true, List, [], ◌∷◌, ◌++◌, length, drop, Result}
use Rattle.recorder.specs.Page.{Page, Mark, logged_all}
use Rattle.renderers.specs.declared.heard.Heard.{Heard}
use Rattle.calls.specs.declared.call.Call.{Call}
use Rattle.calls.specs.declared.call.Reply.{Reply}
use Rattle.calls.specs.declared.refusal.Refusal.{Refusal}
use Rattle.scheduler.specs.Day.{DayState}
use Rattle.scheduler.specs.Marks.{call_marks, closing_marks, opening_marks}
use Rattle.scheduler.specs.Law.{Exchange}
use Rattle.playing.specs.Exchanges.{exchanges, Plays}

-- What the calls of a list add, by their answers.
abbrev pub all_marks : List Exchange → List Mark
all_marks [] = []
all_marks (x ∷ xs) = call_marks x.0 x.1 ++ all_marks xs

-- The words of a day from its opening, over every call that was accepted, to its close at a clock.
abbrev pub trace_of : List ℕ → List Exchange → ℕ → List ℕ
trace_of rates xs clock = logged_all [] (opening_marks rates ++ (all_marks xs ++ closing_marks clock))

-- The words begin with a trace, and those past it are as they were.
abbrev pub BeginsWith : List ℕ → List ℕ → List ℕ → Type 0
BeginsWith trace before after = after ≡ trace ++ drop (length trace) before

-- A page of these words, none of them written yet.
pub record Unwritten (words : List ℕ) (page : Page) : Type 0 where
  pub blank : page.log ≡ []
  pub all_free : page.spare ≡ words
  pub kept : page.keeps ≡ true

-- A list of calls was played on a fresh day, recorded in lent words from their beginning on, and the day was closed: the law
-- holds of the list, and the words begin with the day's trace.
pub record RecordedEvening (rates : List ℕ) (calls : List Call) (replies : List (Result Reply Refusal)) (words words' : List ℕ) (heard heard' : Heard) (clock written : ℕ) : Type 0 where
  pub page : Page
  pub page' : Page
  pub day : DayState
  pub new : Unwritten words page
  pub played : Plays rates calls replies page page' heard heard' day
  pub closed : clock ≡ day.clock
  pub trace : BeginsWith (trace_of rates (exchanges calls replies) clock) words words'
  pub fits : written ≤ length words
  pub length_told : written ≡ length (trace_of rates (exchanges calls replies) clock)
