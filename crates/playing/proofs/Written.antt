-- What a list of calls writes, where words are kept: the marks of its answers, all of them.
use Rattle.std.proofs.Common.{◌≡◌, ℕ, ◌+◌, ◌≤◌, true, List, [], ◌∷◌, ◌++◌, length, None, Ok, Err, Result, sym, refl, ap, ◌∙◌, arith}
use Rattle.std.proofs.lemmas.List.{length-map}
use Rattle.words.specs.Words.{word}
use Rattle.words.specs.declared.Kind.TheVariants as kind
use Rattle.recorder.specs.Page.{Page, wrote, room, logged_all, marked_all}
use Rattle.recorder.proofs.Marks.{marked_all-keeps, marked_all-log, marked_all-append, logged_all-append}
use Rattle.calls.specs.declared.call.Call.{Call}
use Rattle.calls.specs.declared.call.Call.TheVariants.{Release, Tick}
use Rattle.calls.specs.declared.call.Reply.{Reply}
use Rattle.calls.specs.declared.call.Reply.TheVariants.{Released, Ticked as ticked_reply}
use Rattle.calls.specs.declared.refusal.Refusal.{Refusal}
use Rattle.scheduler.specs.Day.{release_refusal, tick_refusal}
use Rattle.scheduler.specs.Marks.{call_marks, opening_marks, closing_marks, release_marks}
use Rattle.scheduler.specs.Outcomes.{opening_refusal}
use Rattle.scheduler.specs.Law.{Exchange}
use Rattle.playing.specs.Played.{Recorded, Right, next, AllRight, played}
use Rattle.playing.specs.Exchanges.{opened_on, Closable}
use Rattle.playing.specs.Traces.{all_marks, trace_of}
use Rattle.playing.proofs.ClosingRoom.{granted_room, few_in_tick}

-- The page after a call that was answered rightly is marked with what the answer adds.
next-page : (s : Recorded) (call : Call) (reply : Result Reply Refusal) → Right s call reply → (next s call reply).page ≡ marked_all s.page (call_marks call reply)
next-page s (Release deadline budget) (Ok (Released number)) right = ap (λ n. marked_all s.page (release_marks n deadline budget)) (sym right.1)
next-page s (Release deadline budget) (Ok (ticked_reply t)) right = absurd right
next-page s (Release deadline budget) (Err refusal) right = refl
next-page s Tick (Ok (Released number)) right = absurd right
next-page s Tick (Ok (ticked_reply t)) right = refl
next-page s Tick (Err refusal) right = refl

-- The page after some calls is marked with what their answers add.
pub marks-of_calls : (s : Recorded) (xs : List Exchange) → AllRight s xs → (played s xs).page ≡ marked_all s.page (all_marks xs)
marks-of_calls s [] right = refl
marks-of_calls s (x ∷ xs) right =
    marks-of_calls (next s x.0 x.1) xs right.1
    ∙ ap (λ (p : Page). marked_all p (all_marks xs)) (next-page s x.0 x.1 right.0)
    ∙ sym (marked_all-append s.page (call_marks x.0 x.1) (all_marks xs))

-- What a call adds fits the words that it wanted.
call_fits : (s : Recorded) (call : Call) (reply : Result Reply Refusal) → Right s call reply → s.page.keeps ≡ true → length (call_marks call reply) ≤ room s.page
call_fits s (Release deadline budget) (Ok (Released number)) right keeps =
    let free = granted_room s.page 10 (release_refusal s.day deadline budget) right.0 keeps in
    omega arith
call_fits s (Release deadline budget) (Ok (ticked_reply t)) right keeps = omega arith
call_fits s (Release deadline budget) (Err refusal) right keeps = omega arith
call_fits s Tick (Ok (Released number)) right keeps = omega arith
call_fits s Tick (Ok (ticked_reply t)) right keeps =
    let free = granted_room s.page 10 (tick_refusal s.day) right.0 keeps in
    let few = few_in_tick t in
    omega arith
call_fits s Tick (Err refusal) right keeps = omega arith

-- So every mark is in the log.
calls_logged : (s : Recorded) (xs : List Exchange) → AllRight s xs → s.page.keeps ≡ true → (played s xs).page.log ≡ logged_all s.page.log (all_marks xs)
calls_logged s [] right keeps = refl
calls_logged s (x ∷ xs) right keeps =
    let call = x.0 in
    let reply = x.1 in
    let page = next-page s call reply right.0 in
    calls_logged (next s call reply) xs right.1 (ap (λ (p : Page). p.keeps) page ∙ marked_all-keeps s.page (call_marks call reply) ∙ keeps)
    ∙ ap (λ (p : Page). logged_all p.log (all_marks xs)) page
    ∙ ap (λ log. logged_all log (all_marks xs)) (marked_all-log s.page (call_marks call reply) (call_fits s call reply right.0 keeps))
    ∙ sym (logged_all-append s.page.log (call_marks call reply) (all_marks xs))

-- The opening, the calls and the close.
pub trace_logged :
    (rates : List ℕ) (page : Page) (xs : List Exchange) (clock : ℕ)
    → page.keeps ≡ true
    → page.log ≡ []
    → opening_refusal page rates ≡ None
    → AllRight (opened_on rates page) xs
    → Closable (played (opened_on rates page) xs).page
    → (marked_all page (opening_marks rates ++ (all_marks xs ++ closing_marks clock))).log ≡ trace_of rates xs clock
trace_logged rates page xs clock keeps blank granted right closable =
    let opening = opening_marks rates in
    let begun = marked_all page opening in
    let s = opened_on rates page in
    let many = length-map rates (λ rate. wrote (word kind.Rate rate)) in
    let free = granted_room page (length rates + 3) None granted keeps in
    let kept : begun.keeps ≡ true = marked_all-keeps page opening ∙ keeps in
    let calls = marks-of_calls s xs right in
    let logged = calls_logged s xs right kept in
    let still : (played s xs).page.keeps ≡ true = ap (λ (p : Page). p.keeps) calls ∙ marked_all-keeps begun (all_marks xs) ∙ kept in
    let one = closable still in
    ap (λ (p : Page). p.log) (marked_all-append page opening (all_marks xs ++ closing_marks clock))
    ∙ ap (λ (p : Page). p.log) (marked_all-append begun (all_marks xs) (closing_marks clock))
    ∙ ap (λ (p : Page). (marked_all p (closing_marks clock)).log) (sym calls)
    ∙ marked_all-log (played s xs).page (closing_marks clock) one
    ∙ ap (λ log. logged_all log (closing_marks clock)) (logged ∙ ap (λ log. logged_all log (all_marks xs)) (marked_all-log page opening (omega arith) ∙ ap (λ log. logged_all log opening) blank))
    ∙ sym (logged_all-append (logged_all [] opening) (all_marks xs) (closing_marks clock))
    ∙ sym (logged_all-append [] opening (all_marks xs ++ closing_marks clock))
