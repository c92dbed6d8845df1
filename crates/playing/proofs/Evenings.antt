-- What the lender of the words gets back when the evening is over.
use Rattle.std.proofs.Common.{◌≡◌, ℕ, ◌-◌, List, ◌++◌, length, drop, Result, sym, refl, ap, ◌∙◌, subst, arith}
use base.Fml.{GName}
use Rattle.recorder.specs.Page.{Page, Mark, blank, all_words, marked_all}
use Rattle.recorder.proofs.Marks.{named, marked_all-append, marked_all-named, marked_all-spare, marked_all-total}
use Rattle.renderers.specs.declared.heard.Heard.{Heard}
use Rattle.calls.specs.declared.call.Call.{Call}
use Rattle.calls.specs.declared.call.Reply.{Reply}
use Rattle.calls.specs.declared.refusal.Refusal.{Refusal}
use Rattle.scheduler.specs.Day.{DayState}
use Rattle.scheduler.specs.Marks.{opening_marks, closing_marks}
use Rattle.playing.specs.Exchanges.{exchanges, opened_on, Closable, Plays}
use Rattle.playing.specs.Traces.{all_marks, trace_of, RecordedEvening}
use Rattle.playing.proofs.Written.{marks-of_calls, trace_logged}

-- All that a day on a blank page marked when it was closed at a clock.
abbrev pub evening_marks : List ℕ → List Call → List (Result Reply Refusal) → ℕ → List Mark
evening_marks rates calls replies clock = opening_marks rates ++ (all_marks (exchanges calls replies) ++ closing_marks clock)

pub evening-marked :
    (rates : List ℕ) (calls : List Call) (replies : List (Result Reply Refusal)) (page page' page'' : Page) (h h' : Heard) (day : DayState) (clock : ℕ)
    → Plays rates calls replies page page' h h' day
    → clock ≡ day.clock
    → page'' ≡ marked_all page' (closing_marks day.clock)
    → page'' ≡ marked_all page (evening_marks rates calls replies clock)
evening-marked rates calls replies page page' page'' h h' day clock plays told end =
    let xs = exchanges calls replies in
    let opened = marked_all page (opening_marks rates) in
    end
    ∙ ap (λ (p : Page). marked_all p (closing_marks day.clock)) (ap (λ r. r.page) plays.so_far.after ∙ marks-of_calls (opened_on rates page) xs plays.so_far.right)
    ∙ ap (λ c. marked_all (marked_all opened (all_marks xs)) (closing_marks c)) (sym told)
    ∙ sym (marked_all-append opened (all_marks xs) (closing_marks clock))
    ∙ sym (marked_all-append page (opening_marks rates) (all_marks xs ++ closing_marks clock))

-- On lent words these marks are the trace, with the other words behind it.
pub evening-recorded :
    (rates : List ℕ) (calls : List Call) (replies : List (Result Reply Refusal)) (words words' : List ℕ) (lender : GName) (begun page' : Page) (h h' : Heard) (day : DayState) (clock written : ℕ)
    → begun ≡ named lender (blank words)
    → Plays rates calls replies begun page' h h' day
    → clock ≡ day.clock
    → words' ≡ all_words (marked_all (blank words) (evening_marks rates calls replies clock))
    → written ≡ length (marked_all (blank words) (evening_marks rates calls replies clock)).log
    → RecordedEvening rates calls replies words words' h h' clock written
evening-recorded rates calls replies words words' lender begun page' h h' day clock written new plays-begun told given counted =
    let page = named lender (blank words) in
    let xs = exchanges calls replies in
    let marks = evening_marks rates calls replies clock in
    let trace = trace_of rates xs clock in
    let plays : Plays rates calls replies page page' h h' day = subst (λ p. Plays rates calls replies p page' h h' day) new plays-begun in
    let logged-named : (marked_all page marks).log ≡ trace =
    trace_logged rates page xs clock refl refl plays.granted plays.so_far.right (subst Closable (ap (λ r. r.page) plays.so_far.after) plays.closable) in
    let logged : (marked_all (blank words) marks).log ≡ trace = ap (λ (p : Page). p.log) (sym (marked_all-named lender (blank words) marks)) ∙ logged-named in
    let from-none : length trace - 0 ≡ length trace = omega arith in
    let spare : (marked_all (blank words) marks).spare ≡ drop (length trace) words =
    marked_all-spare (blank words) marks ∙ ap (λ log. drop (length log - 0) words) logged ∙ ap (λ n. drop n words) from-none in
    record {
      page = page;
      page' = page';
      day = day;
      new = record { blank = refl; all_free = refl; kept = refl };
      played = plays;
      closed = told;
      trace = given ∙ ap (λ log. log ++ (marked_all (blank words) marks).spare) logged ∙ ap (λ rest. trace ++ rest) spare;
      fits = omega (arith, counted, marked_all-total (blank words) marks);
      length_told = counted ∙ ap length logged;
    }
