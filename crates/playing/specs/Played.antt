-- A list of calls made one after the other, each with its answer: what the day, the trace and the renderer come to.
use Rattle.std.specs.Prelude.{◌≡◌, ℕ, ◌+◌, List, [], ◌∷◌, ◌++◌, Some, None, Ok, Err, Option, Result}
use Rattle.recorder.specs.Page.{Page, marked_all}
use Rattle.renderers.specs.declared.answer.Answer.{Answer}
use Rattle.renderers.specs.declared.heard.Heard.{Heard}
use Rattle.scheduler.specs.Outcomes.{heard_tick}
use Rattle.calls.specs.declared.call.Call.{Call}
use Rattle.calls.specs.declared.call.Call.TheVariants.{Release, Tick}
use Rattle.calls.specs.declared.call.Reply.{Reply}
use Rattle.calls.specs.declared.call.Reply.TheVariants.{Released, Ticked as ticked_reply}
use Rattle.calls.specs.declared.refusal.Refusal.{Refusal}
use Rattle.calls.specs.declared.ticked.Ticked.{Ticked}
use Rattle.calls.specs.declared.ticked.Ticked.TheVariants.{Idle, Ran as ran}
use Rattle.scheduler.specs.Day.{DayState, Event, arrived, passed, after, Told, after_tick, release_refusal, released, tick_refusal}
use Rattle.scheduler.specs.Marks.{event_marks, or_no_room}
use Rattle.scheduler.specs.Law.{Exchange}

-- A day and its trace.
pub record Recorded : Type 0 where
  pub day : DayState
  pub page : Page

-- Both after an accepted call.
abbrev pub recorded : Recorded → Event → Recorded
recorded s e = record { day = after s.day e; page = marked_all s.page (event_marks s.day e) }

-- The refusal of a call, if it is refused: a release or a tick wants ten free words.
abbrev pub refusal_for : Recorded → Call → Option Refusal
refusal_for s (Release deadline budget) = or_no_room s.page 10 (release_refusal s.day deadline budget)
refusal_for s Tick = or_no_room s.page 10 (tick_refusal s.day)

-- The answer is right: the number of a job that is accepted, what a tick may tell, or the refusal.
abbrev pub Right : Recorded → Call → Result Reply Refusal → Type 0
Right s (Release deadline budget) (Ok (Released number)) =
    (refusal_for s (Release deadline budget) ≡ None) × (number ≡ s.day.accepted + 1)
Right s (Release deadline budget) (Ok (ticked_reply t)) = ⊥
Right s (Release deadline budget) (Err refusal) = refusal_for s (Release deadline budget) ≡ Some refusal
Right s Tick (Ok (Released number)) = ⊥
Right s Tick (Ok (ticked_reply t)) = (refusal_for s Tick ≡ None) × Told s.day t
Right s Tick (Err refusal) = refusal_for s Tick ≡ Some refusal

-- Day and trace after a call and its answer: a refused call leaves both as they were.
abbrev pub next : Recorded → Call → Result Reply Refusal → Recorded
next s (Release deadline budget) (Ok (Released number)) = recorded s (arrived deadline budget)
next s (Release deadline budget) (Ok (ticked_reply t)) = s
next s (Release deadline budget) (Err refusal) = s
next s Tick (Ok (Released number)) = s
next s Tick (Ok (ticked_reply t)) = recorded s (passed t)
next s Tick (Err refusal) = s

-- The day of it, which is found without the trace.
abbrev pub next_day : DayState → Call → Result Reply Refusal → DayState
next_day day (Release deadline budget) (Ok (Released number)) = released day deadline budget
next_day day (Release deadline budget) (Ok (ticked_reply t)) = day
next_day day (Release deadline budget) (Err refusal) = day
next_day day Tick (Ok (Released number)) = day
next_day day Tick (Ok (ticked_reply t)) = after_tick day t
next_day day Tick (Err refusal) = day

-- Every answer of the list is right where its call was made.
abbrev pub AllRight : Recorded → List Exchange → Type 0
AllRight s [] = Unit {0}
AllRight s (x ∷ xs) = Right s x.0 x.1 × AllRight (next s x.0 x.1) xs

-- Day and trace after the whole list.
abbrev pub played : Recorded → List Exchange → Recorded
played s [] = s
played s (x ∷ xs) = played (next s x.0 x.1) xs

-- What a renderer has heard after an answered call: one request for each busy tick.
abbrev pub heard_reply : Heard → Result Reply Refusal → Heard
heard_reply h (Ok (Released number)) = h
heard_reply h (Ok (ticked_reply t)) = heard_tick h t
heard_reply h (Err refusal) = h

abbrev pub heard_all : Heard → List Exchange → Heard
heard_all h [] = h
heard_all h (x ∷ xs) = heard_all (heard_reply h x.1) xs

-- What the renderer answered, in the order of the ticks that ran a job.
abbrev pub tick_answers : Ticked → List Answer
tick_answers Idle = []
tick_answers (ran r) = r.answer ∷ []

abbrev pub reply_answers : Result Reply Refusal → List Answer
reply_answers (Ok (Released number)) = []
reply_answers (Ok (ticked_reply t)) = tick_answers t
reply_answers (Err refusal) = []

abbrev pub answers : List Exchange → List Answer
answers [] = []
answers (x ∷ xs) = reply_answers x.1 ++ answers xs

-- How many ticks of the list ran a job.
abbrev pub busy_tick : Ticked → ℕ
busy_tick Idle = 0
busy_tick (ran r) = 1

abbrev pub busy_reply : Result Reply Refusal → ℕ
busy_reply (Ok (Released number)) = 0
busy_reply (Ok (ticked_reply t)) = busy_tick t
busy_reply (Err refusal) = 0

abbrev pub busy : List Exchange → ℕ
busy [] = 0
busy (x ∷ xs) = busy_reply x.1 + busy xs
