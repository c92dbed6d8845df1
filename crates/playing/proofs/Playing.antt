-- A list of calls with their answers, one more at the end.
use Rattle.std.proofs.Common.{◌≡◌, ℕ, ◌+◌, ◌<◌, List, [], ◌∷◌, ◌++◌, length, get_or, take, None, Ok, Err, Option, Result, sym, refl, ap, ◌∙◌, subst, arith, length-take}
use Rattle.std.proofs.lemmas.List.{take_more}
use Rattle.rates.specs.Lawful.{Lawful}
use Rattle.recorder.specs.Page.{Page, marked_all}
use Rattle.renderers.specs.declared.answer.Answer.{Answer}
use Rattle.renderers.specs.declared.heard.Heard.{Heard}
use Rattle.calls.specs.declared.call.Call.{Call}
use Rattle.calls.specs.declared.call.Call.TheVariants.{Release, Tick}
use Rattle.calls.specs.declared.call.Reply.{Reply}
use Rattle.calls.specs.declared.call.Reply.TheVariants.{Released, Ticked as ticked_reply}
use Rattle.calls.specs.declared.refusal.Refusal.{Refusal}
use Rattle.scheduler.specs.Day.{DayState, opened}
use Rattle.scheduler.specs.Marks.{opening_marks}
use Rattle.scheduler.specs.Law.{Exchange, Safe}
use Rattle.playing.specs.Played.{Recorded, Right, next, next_day, AllRight, played, heard_reply, heard_all}
use Rattle.playing.specs.Exchanges.{exchanges, opened_on, Closable, Answered, AskedIn, AskedThrough, RunIn, RunThrough, SoFar, Plays}
use Rattle.scheduler.specs.Outcomes.{opening_refusal}
use Rattle.playing.proofs.ClosingRoom.{closable_after, closable_opened}
use Rattle.playing.proofs.DayLaw.{safe}
use Rattle.playing.proofs.BusyTicks.{requests_are_busy_ticks, requests_from_none}

all_right_push : (s : Recorded) (xs : List Exchange) (x : Exchange) → AllRight s xs → Right (played s xs) x.0 x.1 → AllRight s (xs ++ (x ∷ []))
all_right_push s [] x h r = (r, tt)
all_right_push s (y ∷ xs) x h r = (h.0, all_right_push (next s y.0 y.1) xs x h.1 r)

played-push : (s : Recorded) (xs : List Exchange) (x : Exchange) → played s (xs ++ (x ∷ [])) ≡ next (played s xs) x.0 x.1
played-push s [] x = refl
played-push s (y ∷ xs) x = played-push (next s y.0 y.1) xs x

heard-push : (h : Heard) (xs : List Exchange) (x : Exchange) → heard_all h (xs ++ (x ∷ [])) ≡ heard_reply (heard_all h xs) x.1
heard-push h [] x = refl
heard-push h (y ∷ xs) x = heard-push (heard_reply h y.1) xs x

-- The day after a call and its answer, with the trace or without.
next-day : (s : Recorded) (call : Call) (reply : Result Reply Refusal) → (next s call reply).day ≡ next_day s.day call reply
next-day s (Release deadline budget) (Ok (Released number)) = refl
next-day s (Release deadline budget) (Ok (ticked_reply t)) = refl
next-day s (Release deadline budget) (Err refusal) = refl
next-day s Tick (Ok (Released number)) = refl
next-day s Tick (Ok (ticked_reply t)) = refl
next-day s Tick (Err refusal) = refl

asked_push :
    {P : Type 0} (tells : P → List ℕ → ℕ → ℕ → Option ℕ → P → Type 0) (s : Recorded) (xs : List Exchange) (x : Exchange) (p p' p'' : P)
    → AskedThrough tells s.day xs p p'
    → AskedIn tells (played s xs).day x.1 p' p''
    → AskedThrough tells s.day (xs ++ (x ∷ [])) p p''
asked_push tells s [] x p p' p'' same one = (p'', subst (λ q. AskedIn tells s.day x.1 q p'') same one, refl)
asked_push tells s (y ∷ xs) x p p' p'' (q, first, rest) one =
    let day = next-day s y.0 y.1 in
    let more = asked_push tells (next s y.0 y.1) xs x q p' p'' (subst (λ d. AskedThrough tells d xs q p') (sym day) rest) one in
    (q, first, subst (λ d. AskedThrough tells d (xs ++ (x ∷ [])) q p'') day more)

run-push :
    {R : Type 0} (tells : R → ℕ → ℕ → Answer → R → Type 0) (xs : List Exchange) (x : Exchange) (r r' r'' : R)
    → RunThrough tells xs r r'
    → RunIn tells x.1 r' r''
    → RunThrough tells (xs ++ (x ∷ [])) r r''
run-push tells [] x r r' r'' same one = (r'', subst (λ q. RunIn tells x.1 q r'') same one, refl)
run-push tells (y ∷ xs) x r r' r'' (q, first, rest) one = (q, first, run-push tells xs x q r' r'' rest one)

-- As many calls as answers, and one more of each.
exchanges-push : (calls : List Call) (replies : List (Result Reply Refusal)) (call : Call) (reply : Result Reply Refusal) → length calls ≡ length replies → exchanges (calls ++ (call ∷ [])) (replies ++ (reply ∷ [])) ≡ exchanges calls replies ++ ((call, reply) ∷ [])
exchanges-push [] [] call reply e = refl
exchanges-push [] (q ∷ replies) call reply e = absurd (omega arith)
exchanges-push (c ∷ calls) [] call reply e = absurd (omega arith)
exchanges-push (c ∷ calls) (q ∷ replies) call reply e =
    let shorter : length calls ≡ length replies = omega arith in
    ap (λ xs. (c, q) ∷ xs) (exchanges-push calls replies call reply shorter)

-- One call more is answered rightly.
pub answered_more : (s t u : Recorded) (h h' h'' : Heard) (xs : List Exchange) (call : Call) (reply : Result Reply Refusal) → SoFar s t h h' xs → Answered t u h' h'' call reply → SoFar s u h h'' (xs ++ ((call, reply) ∷ []))
answered_more s t u h h' h'' xs call reply far one =
    record {
      right = all_right_push s xs (call, reply) far.right (subst (λ r. Right r call reply) far.after one.right);
      after = one.after ∙ ap (λ r. next r call reply) far.after ∙ sym (played-push s xs (call, reply));
      asked = one.asked ∙ ap (λ g. heard_reply g reply) far.asked ∙ sym (heard-push h xs (call, reply));
    }

-- The calls so far were answered rightly, and each met policy and renderer as the one before it left them.
pub record GoneOn {P R : Type 0} (asks : P → List ℕ → ℕ → ℕ → Option ℕ → P → Type 0) (runs : R → ℕ → ℕ → Answer → R → Type 0) (s t : Recorded) (h h' : Heard) (p p' : P) (r r' : R) (xs : List Exchange) : Type 0 where
  pub so_far : SoFar s t h h' xs
  pub asked : AskedThrough asks s.day xs p p'
  pub run : RunThrough runs xs r r'

-- One call more is answered.
pub gone_on_more :
    {P R : Type 0} (asks : P → List ℕ → ℕ → ℕ → Option ℕ → P → Type 0) (runs : R → ℕ → ℕ → Answer → R → Type 0)
    (s t u : Recorded) (h h' h'' : Heard) (p p' p'' : P) (r r' r'' : R) (xs : List Exchange) (call : Call) (reply : Result Reply Refusal)
    → GoneOn asks runs s t h h' p p' r r' xs
    → Answered t u h' h'' call reply
    → AskedIn asks t.day reply p' p''
    → RunIn runs reply r' r''
    → GoneOn asks runs s u h h'' p p'' r r'' (xs ++ ((call, reply) ∷ []))
gone_on_more asks runs s t u h h' h'' p p' p'' r r' r'' xs call reply gone one asked run =
    let x : Exchange = (call, reply) in
    let far = gone.so_far in
    record {
      so_far = answered_more s t u h h' h'' xs call reply far one;
      asked = asked_push asks s xs x p p' p'' gone.asked (subst (λ q. AskedIn asks q.day reply p' p'') far.after asked);
      run = run-push runs xs x r r' r'' gone.run run;
    }

-- The calls up to a place and one more, where each has an answer.
pub exchanges-more : (calls : List Call) (replies : List (Result Reply Refusal)) (place : ℕ) (call : Call) (reply : Result Reply Refusal) → place < length calls → length replies ≡ place → exchanges (take (place + 1) calls) (replies ++ (reply ∷ [])) ≡ exchanges (take place calls) replies ++ ((get_or calls place call, reply) ∷ [])
exchanges-more calls replies place call reply within answered =
    let short : length (take place calls) ≡ length replies = length-take place calls ∙ omega arith in
    ap (λ front. exchanges front (replies ++ (reply ∷ []))) (take_more calls place call within)
    ∙ exchanges-push (take place calls) replies (get_or calls place call) reply short

-- The whole list was played on a day that was just opened: the law holds of it.
pub played-all :
    (rates : List ℕ) (calls : List Call) (replies : List (Result Reply Refusal)) (page page₁ page' : Page) (h h' : Heard) (start day : DayState) →
    Lawful rates →
    opening_refusal page rates ≡ None →
    start ≡ opened rates →
    page₁ ≡ marked_all page (opening_marks rates) →
    length replies ≡ length calls →
    SoFar (record { day = start; page = page₁ }) (record { day = day; page = page' }) h h' (exchanges calls replies) →
    Plays rates calls replies page page' h h' day
played-all rates calls replies page page₁ page' h h' start day lawful granted fresh recorded answered far =
    let xs = exchanges calls replies in
    let begun : SoFar (record { day = opened rates; page = page₁ }) (record { day = day; page = page' }) h h' xs =
    subst (λ d. SoFar (record { day = d; page = page₁ }) (record { day = day; page = page' }) h h' xs) fresh far in
    let whole : SoFar (opened_on rates page) (record { day = day; page = page' }) h h' xs =
    subst (λ p. SoFar (record { day = opened rates; page = p }) (record { day = day; page = page' }) h h' xs) recorded begun in
    record {
      granted = granted;
      all_answered = answered;
      so_far = whole;
      safe =
          subst
          (Safe xs)
          (sym (ap (λ r. r.day.clock) whole.after))
          (safe rates (marked_all page (opening_marks rates)) xs lawful whole.right);
      closable =
          subst
          Closable
          (sym (ap (λ r. r.page) whole.after))
          (closable_after (opened_on rates page) xs whole.right (closable_opened page rates granted));
      requests_from_none = λ none. ap (λ g. g.requests) whole.asked ∙ requests_from_none (opened_on rates page) h xs whole.right (omega arith) none;
      requests = λ counted. ap (λ g. g.requests) whole.asked ∙ requests_are_busy_ticks h xs counted;
    }

pub gone_on_as :
    {P R : Type 0} {asks : P → List ℕ → ℕ → ℕ → Option ℕ → P → Type 0} {runs : R → ℕ → ℕ → Answer → R → Type 0}
    {s t : Recorded} {h h' : Heard} {p p' : P} {r r' : R} {xs ys : List Exchange}
    → xs ≡ ys
    → GoneOn asks runs s t h h' p p' r r' xs
    → GoneOn asks runs s t h h' p p' r r' ys
gone_on_as {asks = asks} {runs = runs} {s = s} {t = t} {h = h} {h' = h'} {p = p} {p' = p'} {r = r} {r' = r'} e gone =
    subst (GoneOn asks runs s t h h' p p' r r') e gone

pub so_far_as : {s t : Recorded} {h h' : Heard} {xs ys : List Exchange} → xs ≡ ys → SoFar s t h h' xs → SoFar s t h h' ys
so_far_as {s} {t} {h} {h'} e far = subst (SoFar s t h h') e far
