-- The day follows the slowed run of its calls: every accepted call takes both to states that stand alike.
use Rattle.std.proofs.Common.{◌≡◌, ℕ, suc, ◌+◌, ◌-◌, ◌*◌, ◌<◌, ◌≤◌, Bool, true, false, cond, ◌&&◌, eqb, ltb, leb, List, [], ◌∷◌, ◌++◌, map, length, is_some, Some, None, Option, sym, refl, ap, ◌∙◌, subst, arith, length-append}
use native.Mathlib.Nat.{one-le-mul}
use lib.ListN.{length-map}
use Rattle.std.proofs.lemmas.List.{length_push}
use Rattle.std.proofs.lemmas.Bool.{cond_both, and_parts, leb-true, ltb-true, eq-eqb, ne_eqb}
use Rattle.rates.specs.Lawful.{Lawful}
use Rattle.rates.specs.Table.{top_rate}
use Rattle.rates.specs.declared.level.Level.{Level}
use Rattle.cues.specs.Cues.{cue_refusal}
use Rattle.cues.specs.declared.refusal.CueRefusal.{CueRefusal}
use Rattle.cues.specs.declared.refusal.CueRefusal.TheVariants as cue
use Rattle.scheduler.specs.declared.job.Job.{Job}
use Rattle.scheduler.specs.declared.job.Stage.{Stage}
use Rattle.scheduler.specs.declared.job.Stage.TheVariants.{Waiting, Running, Aside}
use Rattle.calls.specs.declared.refusal.Refusal.TheVariants.{Pending, Budgets, Clock}
use Rattle.calls.specs.declared.ticked.Ending.{Ending}
use Rattle.calls.specs.declared.ticked.Ran.{Ran}
use Rattle.calls.specs.declared.ticked.Ticked.TheVariants.{Idle, Ran as ran}
use Rattle.runs.specs.SlowRun as slow
use Rattle.runs.specs.SlowRun.{SlowRow}
use Rattle.runs.specs.NeverBehind.{budgets, Sound}
use Rattle.scheduler.specs.Day.{DayState, opened, job_refusal, release_refusal, released, tick_refusal, paced, runs, first_job, bound_of, level_in, make_way, left_of, amend, handed, after_run, after_idle, after_chosen, ToldChosen, Event, arrived, passed, after, Possible}
use Rattle.scheduler.specs.Good.{running}
use Rattle.scheduler.specs.Law.{ends_job, bound_set, or_else}
use Rattle.scheduler.proofs.Follows.{Fit, Same, Tied, told_end, told_bound, Follows, finis, IsFirst, is-first, First, BothChoose, first-agrees, somebody-agrees, running-agrees, chosen-fit, chosen-placed, follows-push}
use Rattle.scheduler.proofs.FollowsTick.{aside_job, aside_row, first-aside, follows_aside, all_rest, Untold, follows_later, follows-amend}
use Rattle.scheduler.proofs.Ticks.{RanSo, ran_so, stage_after, handed-agrees, Settles, settles}

-- The slowed run's call: of a tick it is told only whether an ending came.
abbrev pub slow_call : Event → slow.Call
slow_call (arrived deadline budget) = slow.arrival deadline budget
slow_call (passed Idle) = slow.tick false
slow_call (passed (ran r)) = slow.tick (is_some r.ending)

-- The ends and last bounds that were told, after one more call.
abbrev pub ends_past : (ℕ → Option ℕ) → ℕ → Event → ℕ → Option ℕ
ends_past ends clock (arrived deadline budget) n = ends n
ends_past ends clock (passed t) n = or_else (ends n) (cond (ends_job n t) (Some (clock + 1)) None)

abbrev pub bounds_past : (ℕ → Option ℕ) → Event → ℕ → Option ℕ
bounds_past bounds (arrived deadline budget) n = bounds n
bounds_past bounds (passed t) n = or_else (bound_set n t) (bounds n)

-- The day stands as the slowed run does, and within its limits; what was told of each job is where its row stands.
pub record Refines (ends bounds : ℕ → Option ℕ) (d : DayState) (s : slow.Slow) : Type 0 where
  pub same_clock : d.clock ≡ s.clock
  pub same_bound : d.handed_bound ≡ s.handed_bound
  pub same_deadline : d.handed_deadline ≡ s.handed_deadline
  pub same_budgets : d.budgets ≡ budgets s.rows
  pub same_accepted : d.accepted ≡ length s.rows
  pub rows : Follows d.rates d.clock ends bounds 1 s.rows d.pending
  pub untold : (n : ℕ) → d.accepted < n → (ends n ≡ None) × (bounds n ≡ None)
  pub clock_low : d.clock ≤ 134217727
  pub budgets_low : d.budgets ≤ 134217727
  pub numbers_low : d.accepted ≤ d.budgets
  pub few : length d.pending ≤ 64

-- Nothing was told of any job before the first call.
abbrev pub nothing_told : ℕ → Option ℕ
nothing_told n = None

pub refines_opened : (rates : List ℕ) → Refines nothing_told nothing_told (opened rates) slow.fresh
refines_opened rates =
    record {
      same_clock = refl;
      same_bound = refl;
      same_deadline = refl;
      same_budgets = refl;
      same_accepted = refl;
      rows = finis;
      untold = λ n h. (refl, refl);
      clock_low = omega arith;
      budgets_low = omega arith;
      numbers_low = omega arith;
      few = omega arith;
    }

-- A test that has to pass, for nothing to be refused.
passes : {X : Type 0} (test : Bool) (rest : Option X) (refusal : X) → cond test rest (Some refusal) ≡ None → (test ≡ true) × (rest ≡ None)
passes true rest refusal e = (refl, e)
passes false rest refusal e = let z : ◌≡◌ {A = ℕ} 0 1 = cc in absurd (omega arith)

-- A job that is not refused is a cue.
pub cue_then_job : (d : DayState) (budget : ℕ) (o : Option CueRefusal) → job_refusal d budget o ≡ None → (o ≡ None) × (job_refusal d budget None ≡ None)
cue_then_job d budget None e = (refl, e)
cue_then_job d budget (Some cause) e = let z : ◌≡◌ {A = ℕ} 0 1 = cc in absurd (omega arith)

-- A cue's four bounds.
pub record IsCue (release deadline budget : ℕ) : Type 0 where
  pub some_budget : 1 ≤ budget
  pub small_budget : budget ≤ 65535
  pub ahead : release < deadline
  pub small_deadline : deadline ≤ 134217727

pub is-cue : (release deadline budget : ℕ) → cue_refusal release deadline budget ≡ None → IsCue release deadline budget
is-cue release deadline budget e =
    let first = passes (leb 1 budget && leb budget 65535) _ (cue.Budget budget) e in
    let second = passes (ltb release deadline && leb deadline 134217727) _ (cue.Deadline deadline) first.1 in
    let budget-right = and_parts (leb 1 budget) (leb budget 65535) first.0 in
    let deadline-right = and_parts (ltb release deadline) (leb deadline 134217727) second.0 in
    record {
      some_budget = leb-true 1 budget budget-right.0;
      small_budget = leb-true budget 65535 budget-right.1;
      ahead = ltb-true release deadline deadline-right.0;
      small_deadline = leb-true deadline 134217727 deadline-right.1;
    }

-- A release that is not refused.
pub record Acceptable (d : DayState) (deadline budget : ℕ) : Type 0 where
  pub some_budget : 1 ≤ budget
  pub small_budget : budget ≤ 65535
  pub ahead : d.clock < deadline
  pub small_deadline : deadline ≤ 134217727
  pub few : length d.pending < 64
  pub budgets_low : d.budgets + budget ≤ 134217727

pub acceptable : (d : DayState) (deadline budget : ℕ) → release_refusal d deadline budget ≡ None → Acceptable d deadline budget
acceptable d deadline budget e =
    let cue = cue_then_job d budget (cue_refusal d.clock deadline budget) e in
    let bounds = is-cue d.clock deadline budget cue.0 in
    let third = passes (ltb (length d.pending) 64) _ (Pending 64) cue.1 in
    let fourth = passes (leb (d.budgets + budget) 134217727) None (Budgets d.budgets) third.1 in
    record {
      some_budget = bounds.some_budget;
      small_budget = bounds.small_budget;
      ahead = bounds.ahead;
      small_deadline = bounds.small_deadline;
      few = ltb-true (length d.pending) 64 third.0;
      budgets_low = leb-true (d.budgets + budget) 134217727 fourth.0;
    }

budgets-push : (rows : List SlowRow) (r : SlowRow) → budgets (rows ++ r ∷ []) ≡ budgets rows + r.job.budget
budgets-push [] r = omega arith
budgets-push (q ∷ rows) r = omega (arith, budgets-push rows r)

refines_arrived :
    (ends bounds : ℕ → Option ℕ) (d : DayState) (s : slow.Slow) (deadline budget : ℕ)
    → Lawful d.rates
    → Refines ends bounds d s
    → Acceptable d deadline budget
    → Refines ends bounds (released d deadline budget) (slow.step s (slow.arrival deadline budget))
refines_arrived ends bounds d s deadline budget lawful f a =
    record {
      same_clock = f.same_clock;
      same_bound = f.same_bound;
      same_deadline = f.same_deadline;
      same_budgets = rw budgets-push (omega (arith, f.same_budgets));
      same_accepted = rw length_push (omega (arith, f.same_accepted));
      rows =
          follows-push
          row
          job
          f.rows
          (record { number = number; deadline = refl; budget = refl; stage = refl })
          (record {
            some_budget = a.some_budget;
            small_budget = a.small_budget;
            small_deadline = a.small_deadline;
            some_remains = one-le-mul a.some_budget (lawful.positive (length d.rates - 1) (omega (arith, lawful.some)));
            little_remains = omega arith;
            speed = tt;
          })
          (subst (λ n. Tied ends bounds n slow.waiting) number (record { end = untold.0; bound = untold.1 }));
      untold = λ n h. f.untold n (omega arith);
      clock_low = f.clock_low;
      budgets_low = a.budgets_low;
      numbers_low = omega (arith, f.numbers_low, a.some_budget);
      few = rw length_push (omega (arith, a.few));
    }
  where
    row : SlowRow
    row = record { job = record { release = s.clock; deadline = deadline; budget = budget }; stage = slow.waiting }

    job : Job
    job =
        record {
          number = d.accepted + 1;
          deadline = deadline;
          budget = budget;
          remaining = budget * top_rate d.rates;
          stage = Waiting;
        }

    number : d.accepted + 1 ≡ 1 + length s.rows
    number = omega (arith, f.same_accepted)

    untold : (ends (d.accepted + 1) ≡ None) × (bounds (d.accepted + 1) ≡ None)
    untold = f.untold (d.accepted + 1) (omega arith)

-- A tick that is not refused.
pub ticks : (d : DayState) → tick_refusal d ≡ None → d.clock < 134217727
ticks d e = ltb-true d.clock 134217727 (passes (ltb d.clock 134217727) None (Clock d.clock) e).0

pub or-none : (o : Option ℕ) → or_else o None ≡ o
or-none None = refl
or-none (Some n) = refl

nobody_chosen : (o : Option SlowRow) → BothChoose o None → o ≡ None
nobody_chosen None h = refl
nobody_chosen (Some r) h = absurd h

refines_idle :
    (ends bounds : ℕ → Option ℕ) (d : DayState) (s : slow.Slow)
    → Refines ends bounds d s
    → d.clock < 134217727
    → first_job d.pending ≡ None
    → Refines (ends_past ends d.clock (passed Idle)) (bounds_past bounds (passed Idle)) (after_idle d) (slow.step s (slow.tick false))
refines_idle ends bounds d s f low e =
    subst
    (λ o. Refines (ends_past ends d.clock (passed Idle)) (bounds_past bounds (passed Idle)) (after_idle d) (slow.ticked s false o))
    (sym (nobody_chosen (slow.first slow.pending s.rows) (subst (BothChoose (slow.first slow.pending s.rows)) e (first-agrees f.rows))))
    (record {
      same_clock = ap (λ c. c + 1) f.same_clock;
      same_bound = f.same_bound;
      same_deadline = f.same_deadline;
      same_budgets = f.same_budgets;
      same_accepted = f.same_accepted;
      rows =
          follows_later
          (d.clock + 1)
          (ends_past ends d.clock (passed Idle))
          (bounds_past bounds (passed Idle))
          (sym (running-agrees f.rows) ∙ ap running nothing-pending)
          (λ k l. (or-none (ends k), refl))
          f.rows;
      untold = λ n h. (or-none (ends n) ∙ (f.untold n h).0, (f.untold n h).1);
      clock_low = omega arith;
      budgets_low = f.budgets_low;
      numbers_low = f.numbers_low;
      few = f.few;
    })
  where
    nothing-pending : d.pending ≡ []
    nothing-pending = subst (IsFirst d.pending) e (is-first d.pending)

-- A tick keeps the jobs of all rows, and never adds to those that are pending.
budgets-put : (deadline : ℕ) (stage : slow.Stage) (rows : List SlowRow) → budgets (slow.put deadline stage rows) ≡ budgets rows
budgets-put deadline stage [] = refl
budgets-put deadline stage (r ∷ rows) =
    cond_both
    (slow.pending r.stage && eqb r.job.deadline deadline)
    (record { job = r.job; stage = stage } ∷ rows)
    (r ∷ slow.put deadline stage rows)
    (λ rs. budgets rs ≡ r.job.budget + budgets rows)
    (λ _. refl)
    (λ _. omega (arith, budgets-put deadline stage rows))

length-put : (deadline : ℕ) (stage : slow.Stage) (rows : List SlowRow) → length (slow.put deadline stage rows) ≡ length rows
length-put deadline stage [] = refl
length-put deadline stage (r ∷ rows) =
    cond_both
    (slow.pending r.stage && eqb r.job.deadline deadline)
    (record { job = r.job; stage = stage } ∷ rows)
    (r ∷ slow.put deadline stage rows)
    (λ rs. length rs ≡ suc (length rows))
    (λ _. refl)
    (λ _. omega (arith, length-put deadline stage rows))

budgets-aside : (clock : ℕ) (rows : List SlowRow) → budgets (map (aside_row clock) rows) ≡ budgets rows
budgets-aside clock [] = refl
budgets-aside clock (r ∷ rows) = omega (arith, budgets-aside clock rows)

budgets-way : (stage : slow.Stage) (clock : ℕ) (rows : List SlowRow) → budgets (slow.make_way stage clock rows) ≡ budgets rows
budgets-way stage clock rows =
    cond_both (slow.runs stage) rows (map (aside_row clock) rows) (λ rs. budgets rs ≡ budgets rows) (λ _. refl) (λ _. budgets-aside clock rows)

length-way : (stage : slow.Stage) (clock : ℕ) (rows : List SlowRow) → length (slow.make_way stage clock rows) ≡ length rows
length-way stage clock rows =
    cond_both
    (slow.runs stage)
    rows
    (map (aside_row clock) rows)
    (λ rs. length rs ≡ length rows)
    (λ _. refl)
    (λ _. length-map rows (aside_row clock))

length-jobs_way : (m : Job) (clock : ℕ) (js : List Job) → length (make_way m clock js) ≡ length js
length-jobs_way m clock js =
    cond_both
    (runs m)
    js
    (map (aside_job clock) js)
    (λ js'. length js' ≡ length js)
    (λ _. refl)
    (λ _. length-map js (aside_job clock))

length-amend : (deadline : ℕ) (new js : List Job) → length new ≤ 1 → length (amend deadline new js) ≤ length js
length-amend deadline new [] h = omega arith
length-amend deadline new (j ∷ js) h =
    cond_both
    (eqb j.deadline deadline)
    (new ++ js)
    (j ∷ amend deadline new js)
    (λ js'. length js' ≤ suc (length js))
    (λ _. omega (arith, length-append new js))
    (λ _. omega (arith, length-amend deadline new js h))

length-left : (m : Job) (bound : ℕ) (level : Level) (rate : ℕ) (ending : Option Ending) → length (left_of m bound level rate ending) ≤ 1
length-left m bound level rate None = omega arith
length-left m bound level rate (Some e) = omega arith

told-end_pending : (stage : Stage) → told_end (paced stage) ≡ None
told-end_pending Waiting = refl
told-end_pending (Running bound level) = refl
told-end_pending (Aside bound noted) = refl

end_after :
    (clock bound : ℕ) (ending : Option Ending)
    → cond (is_some ending) (Some (clock + 1)) None ≡ told_end (stage_after clock bound ending)
end_after clock bound None = refl
end_after clock bound (Some e) = refl

bound_after : (clock bound : ℕ) (ending : Option Ending) → Some bound ≡ told_bound (stage_after clock bound ending)
bound_after clock bound None = refl
bound_after clock bound (Some e) = refl

-- Both give the chosen job the same bound.
pub bound_agrees :
    (ends bounds : ℕ → Option ℕ) (d : DayState) (s : slow.Slow) (n : ℕ) (q : SlowRow) (m : Job)
    → Refines ends bounds d s
    → Same n q m
    → bound_of d m ≡ slow.bound_of s q
bound_agrees ends bounds d s n q m f same =
    λ i.
    slow.chosen_bound
    (same.stage i)
    (sym (somebody-agrees f.rows) i)
    (f.same_clock i)
    (f.same_bound i)
    (f.same_deadline i)
    (same.budget i)
    (same.deadline i)

-- A tick that ran the chosen job.
module _
    (ends bounds : ℕ → Option ℕ) (d : DayState) (s : slow.Slow) (lawful : Lawful d.rates) (sound : Sound s)
    (f : Refines ends bounds d s) (m : Job) (c : First m d.pending) (r : Ran) (told-so : RanSo d m r) where
  abbrev ends' : ℕ → Option ℕ
  ends' = ends_past ends d.clock (passed (ran r))

  abbrev bounds' : ℕ → Option ℕ
  bounds' = bounds_past bounds (passed (ran r))

  abbrev settled-stage : slow.Stage
  settled-stage = stage_after d.clock (bound_of d m) r.ending

  fit-and-tied : Fit d.rates d.clock m × Tied ends bounds m.number (paced m.stage)
  fit-and-tied = chosen-fit m f.rows c

  settles-so : Settles d m r
  settles-so = settles d m r fit-and-tied.0 told-so

  others-untold : (k : ℕ) → (k ≡ m.number → ⊥) → Untold ends bounds ends' bounds' k
  others-untold k apart =
      rw (ne_eqb r.job k (λ e. apart (sym e ∙ told-so.job))) (or-none (ends k), refl)

  chosen-tied : Tied ends' bounds' m.number settled-stage
  chosen-tied =
      record {
        end =
            rw
            (fit-and-tied.1.end, told-end_pending m.stage, eq-eqb r.job m.number told-so.job)
            (end_after d.clock (bound_of d m) r.ending);
        bound =
            rw
            (eq-eqb r.job m.number told-so.job)
            (told-so.bound (bounds m.number) fit-and-tied.1.bound ∙ bound_after d.clock (bound_of d m) r.ending);
      }

  abbrev new-jobs : List Job
  new-jobs = left_of m (bound_of d m) (level_in m r.switch) r.rate r.ending

  rows-after :
      Follows
      d.rates
      (d.clock + 1)
      ends'
      bounds'
      1
      (slow.put m.deadline settled-stage (slow.make_way (paced m.stage) d.clock s.rows))
      (amend m.deadline new-jobs (make_way m d.clock d.pending))
  rows-after = go (runs m) refl
    where
      go :
          (b : Bool)
          → runs m ≡ b
          → Follows
          d.rates
          (d.clock + 1)
          ends'
          bounds'
          1
          (slow.put m.deadline settled-stage (cond b s.rows (map (aside_row d.clock) s.rows)))
          (amend m.deadline new-jobs (cond b d.pending (map (aside_job d.clock) d.pending)))
      go true e =
          follows-amend
          (d.clock + 1)
          ends'
          bounds'
          m
          settled-stage
          new-jobs
          (rw e sound.one_runs)
          others-untold
          chosen-tied
          settles-so.job
          f.rows
          c
      go false e =
          follows-amend
          (d.clock + 1)
          ends'
          bounds'
          m
          settled-stage
          new-jobs
          (omega (arith, all_rest d.clock s.rows))
          others-untold
          chosen-tied
          settles-so.job
          (follows_aside lawful f.rows)
          (first-aside d.clock m d.pending e c)

  -- The slowed run chooses the same job, with the same bound, and leaves it so.
  module _ (n : ℕ) (q : SlowRow) (same : Same n q m) where
    bound-same : bound_of d m ≡ slow.bound_of s q
    bound-same = bound_agrees ends bounds d s n q m f same

    stage-same : settled-stage ≡ slow.stage_of s (is_some r.ending) q
    stage-same =
        sym settles-so.row ∙ (λ i. slow.settled (is_some r.ending) (f.same_clock i + 1) (bound-same i))

    rows_same :
        slow.put m.deadline settled-stage (slow.make_way (paced m.stage) d.clock s.rows)
        ≡ slow.put q.job.deadline (slow.stage_of s (is_some r.ending) q) (slow.make_way q.stage s.clock s.rows)
    rows_same = λ i. slow.put (same.deadline i) (stage-same i) (slow.make_way (same.stage i) (f.same_clock i) s.rows)

    handed-same :
        (old new old' new' : ℕ)
        → old ≡ old'
        → new ≡ new'
        → handed r.ending new old ≡ slow.handed_on (slow.stage_of s (is_some r.ending) q) new' old'
    handed-same old new old' new' p e =
        sym (handed-agrees d.clock (bound_of d m) new old r.ending) ∙ (λ i. slow.handed_on (stage-same i) (e i) (p i))

    refines-ran : d.clock < 134217727 → Refines ends' bounds' (after_run d m r) (slow.ticked s (is_some r.ending) (Some q))
    refines-ran low =
        record {
          same_clock = ap (λ c. c + 1) f.same_clock;
          same_bound = handed-same d.handed_bound (bound_of d m) s.handed_bound (slow.bound_of s q) f.same_bound bound-same;
          same_deadline =
              handed-same d.handed_deadline m.deadline s.handed_deadline q.job.deadline f.same_deadline same.deadline;
          same_budgets = f.same_budgets ∙ sym (budgets-put _ _ _ ∙ budgets-way q.stage s.clock s.rows);
          same_accepted = f.same_accepted ∙ sym (length-put _ _ _ ∙ length-way q.stage s.clock s.rows);
          rows =
              subst
              (λ rows. Follows d.rates (d.clock + 1) ends' bounds' 1 rows (after_run d m r).pending)
              rows_same
              rows-after;
          untold =
              λ k h.
              let u : Untold ends bounds ends' bounds' k =
              others-untold k (λ e. omega (arith, chosen-placed m f.rows c, f.same_accepted)) in
              (u.0 ∙ (f.untold k h).0, u.1 ∙ (f.untold k h).1);
          clock_low = omega arith;
          budgets_low = f.budgets_low;
          numbers_low = f.numbers_low;
          few =
              omega (
                arith,
                f.few,
                length-amend
                    m.deadline
                    new-jobs
                    (make_way m d.clock d.pending)
                    (length-left m (bound_of d m) (level_in m r.switch) r.rate r.ending),
                length-jobs_way m d.clock d.pending,
              );
        }

refines_passed :
    (ends bounds : ℕ → Option ℕ) (d : DayState) (s : slow.Slow) (r : Ran) (o : Option Job) (q : Option SlowRow)
    → Lawful d.rates
    → Sound s
    → Refines ends bounds d s
    → d.clock < 134217727
    → IsFirst d.pending o
    → BothChoose q o
    → ToldChosen d r o
    → Refines
    (ends_past ends d.clock (passed (ran r)))
    (bounds_past bounds (passed (ran r)))
    (after_chosen d r o)
    (slow.ticked s (is_some r.ending) q)
refines_passed ends bounds d s r None q lawful sound f low c chosen told-so = absurd told-so
refines_passed ends bounds d s r (Some m) None lawful sound f low c chosen told-so = absurd chosen
refines_passed ends bounds d s r (Some m) (Some q) lawful sound f low c (n, same) told-so =
    refines-ran
    ends
    bounds
    d
    s
    lawful
    sound
    f
    m
    c
    r
    (ran_so d m r (chosen-fit m f.rows c).0.speed told-so.0 told-so.1)
    n
    q
    same
    low

-- Each accepted call keeps day and slowed run alike.
pub refines_step :
    (ends bounds : ℕ → Option ℕ) (d : DayState) (s : slow.Slow) (e : Event)
    → Lawful d.rates
    → Sound s
    → Refines ends bounds d s
    → Possible d e
    → Refines (ends_past ends d.clock e) (bounds_past bounds e) (after d e) (slow.step s (slow_call e))
refines_step ends bounds d s (arrived deadline budget) lawful sound f p =
    refines_arrived ends bounds d s deadline budget lawful f (acceptable d deadline budget p)
refines_step ends bounds d s (passed Idle) lawful sound f p = refines_idle ends bounds d s f (ticks d p.0) p.1
refines_step ends bounds d s (passed (ran r)) lawful sound f p =
    refines_passed
    ends
    bounds
    d
    s
    r
    (first_job d.pending)
    (slow.first slow.pending s.rows)
    lawful
    sound
    f
    (ticks d p.0)
    (is-first d.pending)
    (first-agrees f.rows)
    p.1
