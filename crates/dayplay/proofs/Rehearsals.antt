-- What a rehearsal comes to, put together from what its calls promise.
use Rattle.std.proofs.Common.{◌≡◌, ℕ, ◌+◌, ◌≤◌, cond, List, [], ◌∷◌, ◌++◌, length, take, drop, Some, None, Ok, Err, vec_items, Option, Result, sym, refl, ap, ◌∙◌, subst, append_assoc, arith, le-ltb}
use Rattle.std.specs.Result.{MatchResult}
use Rattle.std.proofs.lemmas.List.{take_at, take-take}
use Rattle.recorder.specs.Page.{blank}
use Rattle.renderers.specs.declared.answer.Answer.{Answer}
use Rattle.renderers.specs.declared.heard.Heard.{Heard}
use Rattle.renderers.specs.Requests.{fresh}
use Rattle.renderers.specs.Tape.{Read, InTurn}
use Rattle.calls.specs.declared.call.Call.{Call}
use Rattle.calls.specs.declared.call.Reply.{Reply}
use Rattle.calls.specs.declared.call.Reply.TheVariants.{Released, Ticked as ticked_reply}
use Rattle.calls.specs.declared.refusal.Refusal.{Refusal}
use Rattle.playing.specs.declared.play.PlayError.{PlayError}
use Rattle.playing.specs.declared.play.PlayError.TheVariants.{Refused as not_opened, NoMemory}
use Rattle.calls.specs.declared.refusal.Refusal.TheVariants.{Room}
use Rattle.calls.specs.declared.ticked.Ticked.{Ticked}
use Rattle.calls.specs.declared.ticked.Ticked.TheVariants.{Idle, Ran as ran}
use Rattle.calls.specs.declared.ticked.Ran.{Ran}
use Rattle.calls.specs.declared.ticked.Switch.{Switch}
use Rattle.scheduler.specs.declared.job.Job.{Job}
use Rattle.scheduler.specs.Chooses.{Asks}
use Rattle.scheduler.specs.Day.{DayState, first_job}
use Rattle.scheduler.specs.Law.{Exchange}
use Rattle.scheduler.specs.Outcomes.{Asked, AskedFirst, Run, opening_refusal}
use Rattle.playing.specs.Played.{next_day, tick_answers, reply_answers, answers, busy}
use Rattle.playing.specs.Exchanges.{AskedIn, AskedThrough, NotPlayed, RunIn, RunThrough, exchanges}
use Rattle.playing.specs.Traces.{RecordedEvening, trace_of}
use Rattle.dayplay.specs.declared.rehearsal.Rehearsal.{Rehearsal}
use Rattle.script.specs.Reading.{Contents}
use Rattle.dayplay.specs.Rehearsing.{AtTheLeast, ByTheTape, Rehearses}

-- What one policy tells, another with less of a state tells too.
module _ {P Q : Type 0} (f : P → Q) (tells : P → List ℕ → ℕ → ℕ → Option ℕ → P → Type 0) (tells' : Q → List ℕ → ℕ → ℕ → Option ℕ → Q → Type 0) (weaker : (p : P) (rates : List ℕ) (remaining ticks : ℕ) (answer : Option ℕ) (p' : P) → tells p rates remaining ticks answer p' → tells' (f p) rates remaining ticks answer (f p')) where
  asks-weaker : (day : DayState) (m : Job) (switch : Option Switch) (p p' : P) → Asks tells day m switch p p' → Asks tells' day m switch (f p) (f p')
  asks-weaker day m None p p' same = ap f same
  asks-weaker day m (Some switch) p p' (enough, asked) = (enough, weaker p _ _ _ _ p' asked)

  first-weaker : (day : DayState) (r : Ran) (first : Option Job) (p p' : P) → AskedFirst tells day r first p p' → AskedFirst tells' day r first (f p) (f p')
  first-weaker day r None p p' asked = asked
  first-weaker day r (Some m) p p' asked = asks-weaker day m r.switch p p' asked

  tick-weaker : (day : DayState) (t : Ticked) (p p' : P) → Asked tells day t p p' → Asked tells' day t (f p) (f p')
  tick-weaker day Idle p p' same = ap f same
  tick-weaker day (ran r) p p' asked = first-weaker day r (first_job day.pending) p p' asked

  call-weaker : (day : DayState) (reply : Result Reply Refusal) (p p' : P) → AskedIn tells day reply p p' → AskedIn tells' day reply (f p) (f p')
  call-weaker day (Ok (Released number)) p p' same = ap f same
  call-weaker day (Ok (ticked_reply t)) p p' asked = tick-weaker day t p p' asked
  call-weaker day (Err refusal) p p' same = ap f same

  pub asked-weaker : (day : DayState) (xs : List Exchange) (p p' : P) → AskedThrough tells day xs p p' → AskedThrough tells' day xs (f p) (f p')
  asked-weaker day [] p p' same = ap f same
  asked-weaker day (x ∷ xs) p p' (q, first, rest) =
      (f q, call-weaker day x.1 p q first, asked-weaker (next_day day x.0 x.1) xs q p' rest)

-- A renderer that reads a tape answers word by word.
module _ {R : Type 0} (coming : R → List ℕ) (tells : R → ℕ → ℕ → Answer → R → Type 0) (reads : (r : R) (job rate : ℕ) (answer : Answer) (r' : R) → tells r job rate answer r' → Read (coming r) answer (coming r')) where
  tick-in-turn : (t : Ticked) (more : List Answer) (r r' : R) (rest : List ℕ) → Run tells t r r' → InTurn (coming r') more rest → InTurn (coming r) (tick_answers t ++ more) rest
  tick-in-turn Idle more r r' rest same later = subst (λ q. InTurn (coming q) more rest) same later
  tick-in-turn (ran t) more r r' rest run later = (coming r', reads r _ _ _ r' run, later)

  call-in-turn : (reply : Result Reply Refusal) (more : List Answer) (r r' : R) (rest : List ℕ) → RunIn tells reply r r' → InTurn (coming r') more rest → InTurn (coming r) (reply_answers reply ++ more) rest
  call-in-turn (Ok (Released number)) more r r' rest same later = subst (λ q. InTurn (coming q) more rest) same later
  call-in-turn (Ok (ticked_reply t)) more r r' rest run later = tick-in-turn t more r r' rest run later
  call-in-turn (Err refusal) more r r' rest same later = subst (λ q. InTurn (coming q) more rest) same later

  pub run-in-turn : (xs : List Exchange) (r r' : R) → RunThrough tells xs r r' → InTurn (coming r) (answers xs) (coming r')
  run-in-turn [] r r' same = ap coming same
  run-in-turn (x ∷ xs) r r' (q, first, rest) = call-in-turn x.1 (answers xs) r q (coming r') first (run-in-turn xs q r' rest)

-- The lent words suffice for the opening of every table, so that only memory can be wanting.
pub only_memory :
    (A : Type 0) (words rates : List ℕ) (e : PlayError) → length words ≡ 16384 → length rates ≤ 16 → NotPlayed (opening_refusal (blank words) rates) e A → e ≡ NoMemory
only_memory A words rates NoMemory many few not-played = refl
only_memory A words rates (not_opened refusal) many few not-played =
    let opens : opening_refusal (blank words) rates ≡ None =
    ap (λ short. cond short (Some (Room (length words))) None) (le-ltb (length words) (length rates + 3) (omega arith)) in
    let never : None ≡ Some refusal = sym opens ∙ not-played.because in
    let z : ◌≡◌ {A = ℕ} 0 1 = cc in
    absurd (omega arith)

-- Where another error takes the place of an error, what is well stays as it is.
pub kept_ok : {T E : Type 0} (D : Type 0) (r : Result T E) (x : T) → MatchResult r (λ y. ◌≡◌ {A = Result T D} (Ok x) (Ok y)) (λ _. ⊥) → r ≡ Ok x
kept_ok D (Ok y) x same = cc
kept_ok D (Err e) x lost = absurd lost

-- What a vector holds whose slice was lent and came back with the trace in front.
pub trace_taken :
    (trace words words' others : List ℕ) (written long : ℕ)
    → words' ≡ trace ++ drop (length trace) words
    → written ≡ length trace
    → written ≤ long
    → take written (take long (words' ++ others)) ≡ trace
trace_taken trace words words' others written long same counted fits =
    take-take written long (words' ++ others) fits
    ∙ ap (λ ws. take written (ws ++ others)) same
    ∙ ap (take written) (append_assoc trace (drop (length trace) words) others)
    ∙ take_at trace _ written (sym counted)

pub rehearsed :
    (rates : List ℕ) (script : Contents) (done : Rehearsal) (calls : List Call) (words words' others : List ℕ) (h h' : Heard) (written : ℕ)
    → calls ≡ script.calls
    → length words ≡ 16384
    → h ≡ fresh
    → RecordedEvening rates calls (vec_items done.replies) words words' h h' done.clock written
    → AtTheLeast rates (exchanges calls (vec_items done.replies))
    → ByTheTape script.tape (exchanges calls (vec_items done.replies))
    → done.requests ≡ h'.requests
    → vec_items done.trace ≡ take written (take 16384 (words' ++ others))
    → Rehearses rates script done
rehearsed rates script done calls words words' others h h' written same lent new evening least tape requests taken =
    let replies = vec_items done.replies in
    let trace = trace_of rates (exchanges calls replies) done.clock in
    let traced : vec_items done.trace ≡ trace =
    taken ∙ trace_taken trace words words' others written 16384 evening.trace evening.length_told (omega (arith, evening.fits)) in
    let long : written ≡ length (vec_items done.trace) = evening.length_told ∙ sym (ap length traced) in
    let begun : RecordedEvening rates calls replies words words' fresh h' done.clock (length (vec_items done.trace)) =
    subst (λ g. RecordedEvening rates calls replies words words' g h' done.clock (length (vec_items done.trace))) new
    (subst (RecordedEvening rates calls replies words words' h h' done.clock) long evening) in
    record {
      words = words;
      words' = words';
      heard = h';
      lent = lent;
      evening = subst (λ cs. RecordedEvening rates cs replies words words' fresh h' done.clock (length (vec_items done.trace))) same begun;
      levels = subst (λ cs. AtTheLeast rates (exchanges cs replies)) same least;
      answered = subst (λ cs. ByTheTape script.tape (exchanges cs replies)) same tape;
      requests = requests ∙ begun.played.requests_from_none refl ∙ ap (λ cs. busy (exchanges cs replies)) same;
      trace = traced ∙ ap (λ cs. trace_of rates (exchanges cs replies) done.clock) same;
    }
