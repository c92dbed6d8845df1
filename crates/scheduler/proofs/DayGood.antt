-- Every day that some list of calls leads to follows the slowed run of those calls, and so is good.
use Rattle.std.proofs.Common.{◌≡◌, ℕ, ◌+◌, ◌-◌, ◌*◌, ◌≤◌, List, [], ◌∷◌, ◌++◌, map, Some, None, Option, sym, refl, ap, ◌∙◌, subst, append_assoc, append-nil, mul-le-mul_left, arith}
use mathlib.Core.Path.{transport}
use Rattle.rates.specs.Lawful.{Lawful}
use Rattle.rates.specs.Table.{top_rate}
use Rattle.scheduler.specs.declared.job.Job.{Job}
use Rattle.scheduler.specs.declared.job.Stage.{Stage}
use Rattle.scheduler.specs.declared.job.Stage.TheVariants.{Waiting, Running, Aside}
use Rattle.calls.specs.declared.ticked.Ran.{Ran}
use Rattle.calls.specs.declared.ticked.Ticked.TheVariants.{Idle, Ran as ran}
use Rattle.runs.specs.SlowRun as slow
use Rattle.runs.specs.SlowRun.{SlowRow}
use Rattle.runs.specs.NeverBehind.{Budgeted, BoundsHold, TimeEnough, ChosenWell, Sound, budgets}
use Rattle.scheduler.specs.Day.{DayState, opened, paced, first_job, bound_of, after_chosen, Event, arrived, passed, after, Possible, after_all, AllPossible, Reached}
use Rattle.scheduler.specs.Good.{OnPace, GoodJob, ChosenGood, Good}
use Rattle.runs.proofs.SlowSound.{slow-run_sound}
use Rattle.scheduler.proofs.Speed.{top_suffices}
use Rattle.scheduler.proofs.Follows.{Speed, Fit, Same, IsFirst, is-first, BothChoose, first-agrees, running-agrees, chosen-fit, follows-numbered, follows-all}
use Rattle.scheduler.proofs.Refines.{slow_call, ends_past, bounds_past, Refines, nothing_told, refines_opened, acceptable, bound_agrees, refines_step}

-- The slowed run with one more call.
run-push : (s : slow.Slow) (cs : List slow.Call) (c : slow.Call) → slow.run s (cs ++ c ∷ []) ≡ slow.step (slow.run s cs) c
run-push s [] c = refl
run-push s (b ∷ cs) c = run-push (slow.step s b) cs c

budgeted_push : (cs : List slow.Call) (c : slow.Call) → Budgeted cs → Budgeted (c ∷ []) → Budgeted (cs ++ c ∷ [])
budgeted_push [] c h b = b
budgeted_push (slow.arrival deadline budget ∷ cs) c h b = (h.0, budgeted_push cs c h.1 b)
budgeted_push (slow.tick early ∷ cs) c h b = budgeted_push cs c h b

budgeted_call : (d : DayState) (e : Event) → Possible d e → Budgeted (slow_call e ∷ [])
budgeted_call d (arrived deadline budget) p = ((acceptable d deadline budget p).some_budget, tt)
budgeted_call d (passed Idle) p = tt
budgeted_call d (passed (ran r)) p = tt

-- No call changes the rates.
rates_chosen : (d : DayState) (r : Ran) (o : Option Job) → (after_chosen d r o).rates ≡ d.rates
rates_chosen d r None = refl
rates_chosen d r (Some m) = refl

rates_kept : (d : DayState) (e : Event) → (after d e).rates ≡ d.rates
rates_kept d (arrived deadline budget) = refl
rates_kept d (passed Idle) = refl
rates_kept d (passed (ran r)) = rates_chosen d r (first_job d.pending)

rates_kept_all : (d : DayState) (es : List Event) → (after_all d es).rates ≡ d.rates
rates_kept_all d [] = refl
rates_kept_all d (e ∷ es) = rates_kept_all (after d e) es ∙ rates_kept d e

-- What was told after a list of calls.
abbrev pub ends_all : (ℕ → Option ℕ) → DayState → List Event → ℕ → Option ℕ
ends_all ends d [] = ends
ends_all ends d (e ∷ es) = ends_all (ends_past ends d.clock e) (after d e) es

abbrev pub bounds_all : (ℕ → Option ℕ) → List Event → ℕ → Option ℕ
bounds_all bounds [] = bounds
bounds_all bounds (e ∷ es) = bounds_all (bounds_past bounds e) es

-- After the calls cs, and then those of the events.
abbrev pub Follows_on : (ends bounds : ℕ → Option ℕ) → DayState → List Event → List slow.Call → Type 0
Follows_on ends bounds d es cs =
    Refines (ends_all ends d es) (bounds_all bounds es) (after_all d es) (slow.run slow.fresh cs) × Budgeted cs

follows_on :
    (ends bounds : ℕ → Option ℕ) (d : DayState) (cs : List slow.Call) (es : List Event)
    → Lawful d.rates
    → Budgeted cs
    → Refines ends bounds d (slow.run slow.fresh cs)
    → AllPossible d es
    → Follows_on ends bounds d es (cs ++ map slow_call es)
follows_on ends bounds d cs [] lawful b f p = subst (Follows_on ends bounds d []) (sym (append-nil cs)) (f, b)
follows_on ends bounds d cs (e ∷ es) lawful b f p =
    subst
    (Follows_on ends bounds d (e ∷ es))
    (append_assoc cs (slow_call e ∷ []) (map slow_call es))
    (follows_on
    (ends_past ends d.clock e)
    (bounds_past bounds e)
    (after d e)
    (cs ++ slow_call e ∷ [])
    es
    (rw (rates_kept d e) lawful)
    (budgeted_push cs (slow_call e) b (budgeted_call d e p.0))
    (rw
    (run-push slow.fresh cs (slow_call e))
    (refines_step ends bounds d (slow.run slow.fresh cs) e lawful (slow-run_sound cs b) f p.0))
    p.1)

-- The day of a list of calls follows the slowed run of them.
pub day_follows :
    (rates : List ℕ) (es : List Event)
    → Lawful rates
    → AllPossible (opened rates) es
    → Follows_on nothing_told nothing_told (opened rates) es (map slow_call es)
day_follows rates es lawful p = follows_on nothing_told nothing_told (opened rates) [] es lawful tt (refines_opened rates) p

-- A job that follows a sound row is good.
on_pace : (rates : List ℕ) (clock remaining : ℕ) (stage : Stage) → Speed rates clock remaining stage → OnPace rates clock remaining stage
on_pace rates clock remaining Waiting h = tt
on_pace rates clock remaining (Running bound level) h = h
on_pace rates clock remaining (Aside bound noted) h = tt

-- At the top rate what remains of the chosen job is done by its bound.
time_suffices :
    (rates : List ℕ) (clock budget remaining bound : ℕ) (stage : Stage)
    → Lawful rates
    → remaining ≤ budget * top_rate rates
    → Speed rates clock remaining stage
    → TimeEnough (paced stage) clock budget bound
    → remaining ≤ top_rate rates * (bound - clock)
time_suffices rates clock budget remaining bound Waiting lawful l h t =
    let more : top_rate rates * budget ≤ top_rate rates * (bound - clock) = mul-le-mul_left (top_rate rates) (omega arith) in
    omega arith
time_suffices rates clock budget remaining bound (Running old level) lawful l h t =
    rw t (top_suffices rates remaining (old - clock) level.0 lawful h)
time_suffices rates clock budget remaining bound (Aside old noted) lawful l h t =
    let more : top_rate rates * (old - noted) ≤ top_rate rates * (bound - clock) = mul-le-mul_left (top_rate rates) t in
    omega arith

-- A day that follows a sound run is good.
module _
    (ends bounds : ℕ → Option ℕ) (d : DayState) (s : slow.Slow) (lawful : Lawful d.rates) (sound : Sound s)
    (f : Refines ends bounds d s) where
  limit-same : s.clock + budgets s.rows ≡ d.clock + d.budgets
  limit-same = omega (arith, f.same_clock, f.same_budgets)

  job_good :
      (n : ℕ) (r : SlowRow) (j : Job)
      → Same n r j
      → Fit d.rates d.clock j
      → BoundsHold s.clock (s.clock + budgets s.rows) r.stage
      → GoodJob d j
  job_good n r j same k b =
      record {
        some_budget = k.some_budget;
        small_budget = k.small_budget;
        small_deadline = k.small_deadline;
        some_remains = k.some_remains;
        little_remains = k.little_remains;
        bounds = transport (λ i. BoundsHold (sym f.same_clock i) (limit-same i) (sym same.stage i)) b;
        on_pace = on_pace d.rates d.clock j.remaining j.stage k.speed;
      }

  chosen-good-from :
      (q : Option SlowRow) (o : Option Job)
      → BothChoose q o
      → IsFirst d.pending o
      → ChosenWell s q
      → ChosenGood d o
  chosen-good-from None None h c w = tt
  chosen-good-from None (Some m) h c w = absurd h
  chosen-good-from (Some q) None h c w = absurd h
  chosen-good-from (Some q) (Some m) (n, same) c w =
      let k : Fit d.rates d.clock m = (chosen-fit m f.rows c).0 in
      let bound : bound_of d m ≡ slow.bound_of s q = bound_agrees ends bounds d s n q m f same in (
        omega (arith, w.0, f.same_clock),
        omega (arith, w.1, limit-same),
        time_suffices
            d.rates
            d.clock
            m.budget
            m.remaining
            (bound_of d m)
            m.stage
            lawful
            k.little_remains
            k.speed
            (transport (sym (λ i. TimeEnough (same.stage i) (f.same_clock i) (same.budget i) (bound i))) w.2),
      )

  good : Good d
  good =
      record {
        clock_low = f.clock_low;
        budgets_low = f.budgets_low;
        numbers_low = f.numbers_low;
        handed_low = omega (arith, sound.handed_holds, f.same_bound, limit-same);
        few = f.few;
        one_runs = rw (running-agrees f.rows) sound.one_runs;
        numbered = follows-numbered 0 d.accepted f.rows (omega arith) (omega (arith, f.same_accepted));
        jobs_good =
            follows-all
            (λ r. BoundsHold s.clock (s.clock + budgets s.rows) r.stage)
            (GoodJob d)
            job_good
            f.rows
            sound.bounds_hold;
        chosen_good =
            chosen-good-from
            (slow.first slow.pending s.rows)
            (first_job d.pending)
            (first-agrees f.rows)
            (is-first d.pending)
            sound.chosen_well;
      }

-- Every reached day is good.
pub reached_good : (s : DayState) → Lawful s.rates → Reached s → Good s
reached_good s lawful (es, possible, e) =
    subst
    Good
    e
    (good
    (ends_all nothing_told (opened s.rates) es)
    (bounds_all nothing_told es)
    (after_all (opened s.rates) es)
    (slow.run slow.fresh (map slow_call es))
    (rw (rates_kept_all (opened s.rates) es) lawful)
    (slow-run_sound (map slow_call es) follows.1)
    follows.0)
  where
    follows : Follows_on nothing_told nothing_told (opened s.rates) es (map slow_call es)
    follows = day_follows s.rates es lawful possible

-- The day after each call that a reached one may accept is reached.
possible_push : (d : DayState) (es : List Event) (e : Event) → AllPossible d es → Possible (after_all d es) e → AllPossible d (es ++ e ∷ [])
possible_push d [] e h p = (p, tt)
possible_push d (x ∷ es) e h p = (h.0, possible_push (after d x) es e h.1 p)

after_push : (d : DayState) (es : List Event) (e : Event) → after_all d (es ++ e ∷ []) ≡ after (after_all d es) e
after_push d [] e = refl
after_push d (x ∷ es) e = after_push (after d x) es e

pub reached_after : (s : DayState) (e : Event) → Reached s → Possible s e → Reached (after s e)
reached_after s e (es, possible, is) p =
    subst
    (λ rates. (events : List Event) × AllPossible (opened rates) events × (after_all (opened rates) events ≡ after s e))
    (sym (rates_kept s e)) (
      es ++ e ∷ [],
      possible_push (opened s.rates) es e possible (subst (λ d. Possible d e) (sym is) p),
      after_push (opened s.rates) es e ∙ ap (λ d. after d e) is,
    )
