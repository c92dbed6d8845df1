-- The law over whole runs: a day answered rightly is never behind the reference run of the calls that it accepted.
use Rattle.std.proofs.Common.{◌≡◌, ℕ, zero, suc, ◌+◌, ◌-◌, ◌<◌, ◌≤◌, List, [], ◌∷◌, map, length, get_or, Some, None, Option, sym, refl, ap, ◌∙◌, subst, subst₂, arith}
use Rattle.std.specs.List.{ContainsAt}
use Rattle.std.proofs.lemmas.List.{get_or_default}
use Rattle.rates.specs.Lawful.{Lawful}
use Rattle.recorder.specs.Page.{Page}
use Rattle.runs.specs.ReferenceRun as reference-run
use Rattle.runs.specs.ReferenceRun.{Row, Reference}
use Rattle.runs.specs.Deadlines as deadlines
use Rattle.runs.specs.Deadlines.{jobs, OverBy}
use Rattle.runs.specs.SlowRun as slow
use Rattle.runs.specs.SlowRun.{SlowRow}
use Rattle.runs.specs.NeverBehind.{NotBehind, RowsAgree}
use Rattle.scheduler.specs.Day.{opened, Event, AllPossible}
use Rattle.scheduler.specs.Law.{Exchange, accepted_calls, reference, day_end, last_bound, OverInTime, IsJob, Safe}
use Rattle.playing.specs.Played.{AllRight, played}
use Rattle.runs.proofs.SlowLaw.{slow-run_not_behind}
use Rattle.runs.proofs.ReferenceDemand.{feasible-over-by-deadline, missed-exactly-when-overloaded}
use Rattle.scheduler.proofs.Follows.{told_end, told_bound, Tied, AllTied, follows-tied}
use Rattle.scheduler.proofs.Refines.{slow_call, nothing_told, or-none}
use Rattle.scheduler.proofs.DayGood.{ends_all, bounds_all, Follows_on, day_follows}
use Rattle.playing.proofs.Exchanges.{events_of, right_possible, played-day, accepted-events, possible_sound, ends_told, bounds_told}

-- A row that is not behind, and of which was told where it stands, is over in time.
over-in_time :
    (stage : slow.Stage) (e : ℕ) → NotBehind stage (Some e) → OverInTime (told_end stage) (told_bound stage) e
over-in_time slow.waiting e h = h
over-in_time (slow.running bound) e h = h
over-in_time (slow.aside bound noted) e h = h
over-in_time (slow.over end bound) e h = h

tied_in_time :
    (ends bounds : ℕ → Option ℕ) (n : ℕ) (r : SlowRow) (q : Row) (e : ℕ)
    → Tied ends bounds n r.stage
    → NotBehind r.stage q.end
    → q.end ≡ Some e
    → OverInTime (ends n) (bounds n) e
tied_in_time ends bounds n r q e t h is =
    subst₂
    (λ end bound. OverInTime end bound e)
    (sym t.end)
    (sym t.bound)
    (over-in_time r.stage e (subst (NotBehind r.stage) is h))

all_in_time :
    (ends bounds : ℕ → Option ℕ) (n : ℕ) (rows : List SlowRow) (qs : List Row) (k place : ℕ) (q : Row) (e : ℕ)
    → AllTied ends bounds n rows
    → RowsAgree rows qs
    → place ≡ n + k
    → k < length qs
    → get_or qs k q ≡ q
    → q.end ≡ Some e
    → OverInTime (ends place) (bounds place) e
all_in_time ends bounds n [] [] k place q e t h p l is over = absurd (omega arith)
all_in_time ends bounds n [] (x ∷ qs) k place q e t h p l is over = absurd h
all_in_time ends bounds n (r ∷ rows) [] k place q e t h p l is over = absurd h
all_in_time ends bounds n (r ∷ rows) (x ∷ qs) zero place q e t h p l is over =
    subst
    (λ place. OverInTime (ends place) (bounds place) e)
    (omega arith)
    (tied_in_time ends bounds n r x e t.0 h.1 (ap (λ q. q.end) is ∙ over))
all_in_time ends bounds n (r ∷ rows) (x ∷ qs) (suc k) place q e t h p l is over =
    all_in_time ends bounds (suc n) rows qs k place q e t.1 h.2 (omega arith) (omega arith) is over

-- Where the reference run has a job over by its deadline, and the day is not behind, so has the day.
day_over_by :
    (end bound reference-end : Option ℕ) (deadline : ℕ)
    → OverBy deadline reference-end
    → ((e : ℕ) → reference-end ≡ Some e → OverInTime end bound e)
    → OverBy deadline end
day_over_by end bound None deadline by h = absurd by
day_over_by None bound (Some e) deadline by h = h e refl
day_over_by (Some end) None (Some e) deadline by h = absurd (h e refl)
day_over_by (Some end) (Some bound) (Some e) deadline by h = omega (arith, h e refl)

has_job : (s : Reference) (n : ℕ) (r : Row) → IsJob s n r → ContainsAt s.rows r
has_job s n r (from, to, is) = (n - 1, omega arith, λ d. get_or_default s.rows (n - 1) d r (omega arith) ∙ is)

module _ (rates : List ℕ) (page : Page) (xs : List Exchange) (lawful : Lawful rates) (right : AllRight (record { day = opened rates; page = page }) xs) where
  abbrev es : List Event
  es = events_of xs

  abbrev calls : List slow.Call
  calls = map slow_call es

  abbrev clock : ℕ
  clock = (played (record { day = opened rates; page = page }) xs).day.clock

  possible : AllPossible (opened rates) es
  possible = right_possible (record { day = opened rates; page = page }) xs right

  follows : Follows_on nothing_told nothing_told (opened rates) es calls
  follows = day_follows rates es lawful possible

  never-behind-slow :
      ((slow.run slow.fresh calls).clock ≡ (reference xs).clock) × RowsAgree (slow.run slow.fresh calls).rows (reference xs).rows
  never-behind-slow =
      subst
      (λ cs.
      ((slow.run slow.fresh calls).clock ≡ (reference-run.run reference-run.fresh cs).clock)
      × RowsAgree (slow.run slow.fresh calls).rows (reference-run.run reference-run.fresh cs).rows)
      (sym (accepted-events xs))
      (slow-run_not_behind calls follows.1)

  sound : deadlines.Sound 0 (accepted_calls xs)
  sound = subst (deadlines.Sound 0) (sym (accepted-events xs)) (possible_sound (opened rates) es possible)

  clock-same : clock ≡ (reference xs).clock
  clock-same =
      ap (λ d. d.clock) (played-day (record { day = opened rates; page = page }) xs)
      ∙ follows.0.same_clock
      ∙ never-behind-slow.0

  end_told : (n : ℕ) → ends_all nothing_told (opened rates) es n ≡ day_end n xs
  end_told n = ends_told n (record { day = opened rates; page = page }) xs right nothing_told

  bound_told : (n : ℕ) → bounds_all nothing_told es n ≡ last_bound n xs
  bound_told n = bounds_told n (record { day = opened rates; page = page }) xs right nothing_told ∙ or-none (last_bound n xs)

  in_time : (n : ℕ) (r : Row) → IsJob (reference xs) n r → (e : ℕ) → r.end ≡ Some e → OverInTime (day_end n xs) (last_bound n xs) e
  in_time n r (from, to, is) e over =
      subst₂
      (λ end bound. OverInTime end bound e)
      (end_told n)
      (bound_told n)
      (all_in_time
      (ends_all nothing_told (opened rates) es)
      (bounds_all nothing_told es)
      1
      (slow.run slow.fresh calls).rows
      (reference xs).rows
      (n - 1)
      n
      r
      e
      (follows-tied follows.0.rows)
      never-behind-slow.1
      (omega arith)
      (omega arith)
      is
      over)

  pub safe : Safe xs (played (record { day = opened rates; page = page }) xs).day.clock
  safe =
      record {
        same_clock = clock-same;
        never_behind = in_time;
        in_time =
            λ feasible n r is-job due.
            let by : OverBy r.job.deadline r.end =
            feasible-over-by-deadline
            (accepted_calls xs)
            sound
            feasible
            r
            (has_job (reference xs) n r is-job)
            (omega (arith, clock-same)) in
            (by, day_over_by (day_end n xs) (last_bound n xs) r.end r.job.deadline by (in_time n r is-job));
        missed_exactly =
            λ come. missed-exactly-when-overloaded (accepted_calls xs) sound (subst (λ c. deadlines.last_deadline (jobs (reference xs)) ≤ c) clock-same come);
      }
