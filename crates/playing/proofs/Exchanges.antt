-- A list of calls with right answers, as the events of a day: each accepted call was possible where it was made, and what
-- the answers told is what the events told.
use Rattle.std.proofs.Common.{◌≡◌, ℕ, ◌+◌, List, [], ◌∷◌, map, Some, None, Ok, Err, Option, Result, sym, refl, ap, ◌∙◌, subst}
use Rattle.calls.specs.declared.call.Call.{Call}
use Rattle.calls.specs.declared.call.Call.TheVariants.{Release, Tick}
use Rattle.calls.specs.declared.call.Reply.{Reply}
use Rattle.calls.specs.declared.call.Reply.TheVariants.{Released, Ticked as ticked_reply}
use Rattle.calls.specs.declared.refusal.Refusal.{Refusal}
use Rattle.scheduler.specs.declared.job.Job.{Job}
use Rattle.calls.specs.declared.ticked.Ran.{Ran}
use Rattle.calls.specs.declared.ticked.Ticked.{Ticked}
use Rattle.calls.specs.declared.ticked.Ticked.TheVariants.{Idle, Ran as ran}
use Rattle.runs.specs.ReferenceRun as reference
use Rattle.runs.specs.NeverBehind.{accepted}
use Rattle.runs.specs.Deadlines as deadlines
use Rattle.scheduler.specs.Day.{DayState, first_job, after_chosen, after_tick, ToldChosen, Told, Event, arrived, passed, after, after_all, AllPossible}
use Rattle.scheduler.specs.Law.{Exchange, accepted_call, and_then, accepted_calls, or_else, end_told, bound_told, clock_past, end_from, last_bound, bound_set}
use Rattle.playing.specs.Played.{Recorded, Right, next, AllRight, played}
use Rattle.scheduler.proofs.Accepting.{nothing_else_refused}
use Rattle.scheduler.proofs.Refines.{slow_call, ends_past, bounds_past, acceptable, or-none}
use Rattle.scheduler.proofs.DayGood.{ends_all, bounds_all}

-- The events with that of an answered call in front, if it was accepted.
abbrev pub with_event : Call → Result Reply Refusal → List Event → List Event
with_event (Release deadline budget) (Ok (Released number)) es = arrived deadline budget ∷ es
with_event (Release deadline budget) (Ok (ticked_reply t)) es = es
with_event (Release deadline budget) (Err refusal) es = es
with_event Tick (Ok (Released number)) es = es
with_event Tick (Ok (ticked_reply t)) es = passed t ∷ es
with_event Tick (Err refusal) es = es

abbrev pub events_of : List Exchange → List Event
events_of [] = []
events_of (x ∷ xs) = with_event x.0 x.1 (events_of xs)

-- Each accepted call was possible.
possible_first :
    (s : Recorded) (call : Call) (reply : Result Reply Refusal) (es : List Event)
    → Right s call reply
    → AllPossible (next s call reply).day es
    → AllPossible s.day (with_event call reply es)
possible_first s (Release deadline budget) (Ok (Released number)) es r p = (nothing_else_refused s.page 10 _ r.0, p)
possible_first s (Release deadline budget) (Ok (ticked_reply t)) es r p = absurd r
possible_first s (Release deadline budget) (Err refusal) es r p = p
possible_first s Tick (Ok (Released number)) es r p = absurd r
possible_first s Tick (Ok (ticked_reply t)) es r p = ((nothing_else_refused s.page 10 _ r.0, r.1), p)
possible_first s Tick (Err refusal) es r p = p

pub right_possible : (s : Recorded) (xs : List Exchange) → AllRight s xs → AllPossible s.day (events_of xs)
right_possible s [] r = tt
right_possible s (x ∷ xs) r =
    possible_first s x.0 x.1 (events_of xs) r.0 (right_possible (next s x.0 x.1) xs r.1)

-- They lead to the day that was played.
played-first :
    (s : Recorded) (call : Call) (reply : Result Reply Refusal) (es : List Event)
    → after_all (next s call reply).day es ≡ after_all s.day (with_event call reply es)
played-first s (Release deadline budget) (Ok (Released number)) es = refl
played-first s (Release deadline budget) (Ok (ticked_reply t)) es = refl
played-first s (Release deadline budget) (Err refusal) es = refl
played-first s Tick (Ok (Released number)) es = refl
played-first s Tick (Ok (ticked_reply t)) es = refl
played-first s Tick (Err refusal) es = refl

pub played-day : (s : Recorded) (xs : List Exchange) → (played s xs).day ≡ after_all s.day (events_of xs)
played-day s [] = refl
played-day s (x ∷ xs) = played-day (next s x.0 x.1) xs ∙ played-first s x.0 x.1 (events_of xs)

-- They are the accepted calls.
accepted-tick : (t : Ticked) → reference.ticked ≡ accepted (slow_call (passed t))
accepted-tick Idle = refl
accepted-tick (ran r) = refl

accepted-first :
    (call : Call) (reply : Result Reply Refusal) (es : List Event)
    → and_then (accepted_call call reply) (map accepted (map slow_call es)) ≡ map accepted (map slow_call (with_event call reply es))
accepted-first (Release deadline budget) (Ok (Released number)) es = refl
accepted-first (Release deadline budget) (Ok (ticked_reply t)) es = refl
accepted-first (Release deadline budget) (Err refusal) es = refl
accepted-first Tick (Ok (Released number)) es = refl
accepted-first Tick (Ok (ticked_reply t)) es = ap (λ c. c ∷ map accepted (map slow_call es)) (accepted-tick t)
accepted-first Tick (Err refusal) es = refl

pub accepted-events : (xs : List Exchange) → accepted_calls xs ≡ map accepted (map slow_call (events_of xs))
accepted-events [] = refl
accepted-events (x ∷ xs) =
    ap (and_then (accepted_call x.0 x.1)) (accepted-events xs) ∙ accepted-first x.0 x.1 (events_of xs)

-- A tick raises the clock by one.
clock_chosen : (d : DayState) (r : Ran) (o : Option Job) → ToldChosen d r o → (after_chosen d r o).clock ≡ d.clock + 1
clock_chosen d r None told = absurd told
clock_chosen d r (Some m) told = refl

pub clock_ticked : (d : DayState) (t : Ticked) → Told d t → (after_tick d t).clock ≡ d.clock + 1
clock_ticked d Idle told = refl
clock_ticked d (ran r) told = clock_chosen d r (first_job d.pending) told

-- The accepted calls make a sound reference run.
sound_tick : (clock : ℕ) (e : Ticked) (calls : List reference.Accepted) → deadlines.Sound (clock + 1) calls → deadlines.Sound clock (accepted (slow_call (passed e)) ∷ calls)
sound_tick clock Idle calls h = h
sound_tick clock (ran r) calls h = h

pub possible_sound :
    (d : DayState) (es : List Event) → AllPossible d es → deadlines.Sound d.clock (map accepted (map slow_call es))
possible_sound d [] p = tt
possible_sound d (arrived deadline budget ∷ es) p =
    let a = acceptable d deadline budget p.0 in
    (a.some_budget, a.ahead, possible_sound (after d (arrived deadline budget)) es p.1)
possible_sound d (passed t ∷ es) p =
    sound_tick
    d.clock
    t
    (map accepted (map slow_call es))
    (subst
    (λ clock. deadlines.Sound clock (map accepted (map slow_call es)))
    (clock_ticked d t p.0.1)
    (possible_sound (after d (passed t)) es p.1))

-- What the answers told of job n.
or_assoc : (x y z : Option ℕ) → or_else (or_else x y) z ≡ or_else x (or_else y z)
or_assoc None y z = refl
or_assoc (Some k) y z = refl

ends_first :
    (n : ℕ) (s : Recorded) (call : Call) (reply : Result Reply Refusal) (es : List Event) (later : ℕ → Option ℕ)
    → ((ends : ℕ → Option ℕ) → ends_all ends (next s call reply).day es n ≡ or_else (ends n) (later (next s call reply).day.clock))
    → Right s call reply
    → (ends : ℕ → Option ℕ)
    → ends_all ends s.day (with_event call reply es) n
    ≡ or_else (ends n) (or_else (end_told n s.day.clock reply) (later (clock_past s.day.clock reply)))
ends_first n s (Release deadline budget) (Ok (Released number)) es later h r ends = h (ends_past ends s.day.clock (arrived deadline budget))
ends_first n s (Release deadline budget) (Ok (ticked_reply t)) es later h r ends = absurd r
ends_first n s (Release deadline budget) (Err refusal) es later h r ends = h ends
ends_first n s Tick (Ok (Released number)) es later h r ends = absurd r
ends_first n s Tick (Ok (ticked_reply t)) es later h r ends =
    h (ends_past ends s.day.clock (passed t))
    ∙ ap (λ clock. or_else (ends_past ends s.day.clock (passed t) n) (later clock)) (clock_ticked s.day t r.1)
    ∙ or_assoc (ends n) (end_told n s.day.clock (Ok (ticked_reply t))) (later (s.day.clock + 1))
ends_first n s Tick (Err refusal) es later h r ends = h ends

pub ends_told :
    (n : ℕ) (s : Recorded) (xs : List Exchange)
    → AllRight s xs
    → (ends : ℕ → Option ℕ)
    → ends_all ends s.day (events_of xs) n ≡ or_else (ends n) (end_from n s.day.clock xs)
ends_told n s [] r ends = sym (or-none (ends n))
ends_told n s (x ∷ xs) r ends =
    ends_first
    n
    s
    x.0
    x.1
    (events_of xs)
    (λ clock. end_from n clock xs)
    (ends_told n (next s x.0 x.1) xs r.1)
    r.0
    ends

bounds_first :
    (n : ℕ) (s : Recorded) (call : Call) (reply : Result Reply Refusal) (es : List Event) (later : Option ℕ)
    → ((bounds : ℕ → Option ℕ) → bounds_all bounds es n ≡ or_else later (bounds n))
    → Right s call reply
    → (bounds : ℕ → Option ℕ)
    → bounds_all bounds (with_event call reply es) n ≡ or_else (or_else later (bound_told n reply)) (bounds n)
bounds_first n s (Release deadline budget) (Ok (Released number)) es later h r bounds =
    h bounds ∙ sym (or_assoc later None (bounds n))
bounds_first n s (Release deadline budget) (Ok (ticked_reply t)) es later h r bounds = absurd r
bounds_first n s (Release deadline budget) (Err refusal) es later h r bounds =
    h bounds ∙ sym (or_assoc later None (bounds n))
bounds_first n s Tick (Ok (Released number)) es later h r bounds = absurd r
bounds_first n s Tick (Ok (ticked_reply t)) es later h r bounds =
    h (bounds_past bounds (passed t)) ∙ sym (or_assoc later (bound_set n t) (bounds n))
bounds_first n s Tick (Err refusal) es later h r bounds = h bounds ∙ sym (or_assoc later None (bounds n))

pub bounds_told :
    (n : ℕ) (s : Recorded) (xs : List Exchange)
    → AllRight s xs
    → (bounds : ℕ → Option ℕ)
    → bounds_all bounds (events_of xs) n ≡ or_else (last_bound n xs) (bounds n)
bounds_told n s [] r bounds = refl
bounds_told n s (x ∷ xs) r bounds =
    bounds_first
    n
    s
    x.0
    x.1
    (events_of xs)
    (last_bound n xs)
    (bounds_told n (next s x.0 x.1) xs r.1)
    r.0
    bounds
