-- After every call that was accepted a word is free for closing the day, where words are kept.
use Rattle.std.proofs.Common.{◌≡◌, ℕ, ◌+◌, ◌<◌, ◌≤◌, Bool, true, false, cond, ◌&&◌, ltb, List, [], ◌∷◌, length, Some, None, Ok, Err, Option, Result, sym, refl, ap, ◌∙◌, arith, length-append, ltb-false}
use Rattle.std.proofs.lemmas.List.{length-map}
use Rattle.words.specs.Words.{word}
use Rattle.words.specs.declared.Kind.TheVariants as kind
use Rattle.recorder.specs.Page.{Page, Mark, wrote, room, marked_all}
use Rattle.recorder.proofs.Marks.{marked_all-keeps, marked_all-room}
use Rattle.calls.specs.declared.call.Call.{Call}
use Rattle.calls.specs.declared.call.Call.TheVariants.{Release, Tick}
use Rattle.calls.specs.declared.call.Reply.{Reply}
use Rattle.calls.specs.declared.call.Reply.TheVariants.{Released, Ticked as ticked_reply}
use Rattle.calls.specs.declared.refusal.Refusal.{Refusal}
use Rattle.calls.specs.declared.refusal.Refusal.TheVariants.{Room}
use Rattle.calls.specs.declared.ticked.Ticked.{Ticked}
use Rattle.calls.specs.declared.ticked.Ticked.TheVariants.{Idle, Ran as ran}
use Rattle.calls.specs.declared.ticked.Switch.{Switch}
use Rattle.calls.specs.declared.ticked.Ending.{Ending}
use Rattle.calls.specs.declared.ticked.Ending.TheVariants as ending
use Rattle.scheduler.specs.Day.{release_refusal, tick_refusal}
use Rattle.scheduler.specs.Marks.{or_no_room, opening_marks, release_marks, aside_marks, switch_marks, ending_marks, tick_marks}
use Rattle.scheduler.specs.Outcomes.{opening_refusal}
use Rattle.scheduler.specs.Law.{Exchange}
use Rattle.playing.specs.Played.{Recorded, Right, next, AllRight, played}
use Rattle.playing.specs.Exchanges.{Closable}

-- A call that is not refused has the words that it wants.
pub granted_room : (page : Page) (wanted : ℕ) (cause : Option Refusal) → or_no_room page wanted cause ≡ None → page.keeps ≡ true → wanted ≤ room page
granted_room page wanted (Some refusal) e keeps = let z : ◌≡◌ {A = ℕ} 0 1 = cc in absurd (omega arith)
granted_room page wanted None e keeps = go (ltb (room page) wanted) refl (ap (λ k. cond (k && ltb (room page) wanted) (Some (Room (room page))) None) (sym keeps) ∙ e)
  where
    go : (t : Bool) → ltb (room page) wanted ≡ t → cond t (Some (Room (room page))) None ≡ None → wanted ≤ room page
    go true short e = let z : ◌≡◌ {A = ℕ} 0 1 = cc in absurd (omega arith)
    go false enough e = ltb-false (room page) wanted enough

-- Marks that are fewer than the free words leave one.
left_over : (page : Page) (marks : List Mark) (wanted : ℕ) → length marks < wanted → (page.keeps ≡ true → wanted ≤ room page) → Closable (marked_all page marks)
left_over page marks wanted fewer enough keeps =
    let free = enough (sym (marked_all-keeps page marks) ∙ keeps) in
    let left = marked_all-room page marks in
    omega arith

few_aside : (aside : Option ℕ) → length (aside_marks aside) ≤ 1
few_aside None = omega arith
few_aside (Some number) = omega arith

few_switch : (number : ℕ) (switch : Option Switch) → length (switch_marks number switch) ≤ 4
few_switch number None = omega arith
few_switch number (Some switch) = let few = few_aside switch.aside in simp length-append (omega arith)

few_ending : (number : ℕ) (over : Option Ending) → length (ending_marks number over) ≤ 2
few_ending number None = omega arith
few_ending number (Some ending.Finished) = omega arith
few_ending number (Some ending.Cut) = omega arith
few_ending number (Some (ending.Failed code)) = omega arith

pub few_in_tick : (t : Ticked) → length (tick_marks t) ≤ 7
few_in_tick Idle = omega arith
few_in_tick (ran r) =
    let switch = few_switch r.job r.switch in
    let over = few_ending r.job r.ending in
    simp length-append (omega arith)

one_call : (s : Recorded) (call : Call) (reply : Result Reply Refusal) → Right s call reply → Closable s.page → Closable (next s call reply).page
one_call s (Release deadline budget) (Ok (Released number)) right before =
    left_over s.page (release_marks (s.day.accepted + 1) deadline budget) 10 (omega arith) (granted_room s.page 10 (release_refusal s.day deadline budget) right.0)
one_call s (Release deadline budget) (Ok (ticked_reply t)) right before = before
one_call s (Release deadline budget) (Err refusal) right before = before
one_call s Tick (Ok (Released number)) right before = before
one_call s Tick (Ok (ticked_reply t)) right before =
    let few = few_in_tick t in
    left_over s.page (tick_marks t) 10 (omega arith) (granted_room s.page 10 (tick_refusal s.day) right.0)
one_call s Tick (Err refusal) right before = before

-- So closing always fits, after any list of calls.
pub closable_after : (s : Recorded) (xs : List Exchange) → AllRight s xs → Closable s.page → Closable (played s xs).page
closable_after s [] right before = before
closable_after s (x ∷ xs) right before = closable_after (next s x.0 x.1) xs right.1 (one_call s x.0 x.1 right.0 before)

pub closable_opened : (page : Page) (rates : List ℕ) → opening_refusal page rates ≡ None → Closable (marked_all page (opening_marks rates))
closable_opened page rates granted =
    let many = length-map rates (λ rate. wrote (word kind.Rate rate)) in
    left_over page (opening_marks rates) (length rates + 3) (omega arith) (granted_room page (length rates + 3) None granted)
