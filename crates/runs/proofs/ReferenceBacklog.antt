-- A missed job shows an overload. For each deadline d, the ticks left of the jobs due by d are the backlog: a tick takes one
-- from it as long as there is one. While there is a backlog, some clock a has it, with the ticks since a, inside the demand of [a, d).
-- So a job that still has ticks left at its deadline, or has just ended after it, gives an interval that demands too much.
use Rattle.std.proofs.Common.{◌≡◌, ℕ, ◌+◌, ◌-◌, ◌<◌, ◌≤◌, cond, leb, ◌⊎◌, List, [], ◌∷◌, ◌++◌, Some, None, sum_by, Option, sym, refl, subst, subst₂, inl, inr, ⊎_elim, arith}
use Rattle.std.specs.List.{ContainsAt, AllByRecursion}
use Rattle.std.proofs.lemmas.List.{map_push}
use Rattle.std.proofs.lemmas.Bool.{cond_both, leb-true, cases_lt}
use Rattle.std.proofs.ByRecursion.{All-weaker, All-push, all-has}
use Rattle.std.proofs.lemmas.List.Sums.{sum_by_push}
use Rattle.std.proofs.lemmas.Bool.Decides.{nat_tests}
use Rattle.cues.specs.Demand.{Job, demand, Overloaded}
use Rattle.runs.specs.ReferenceRun.{Accepted, released, ticked, Row, Reference, fresh, served, step, run}
use Rattle.runs.specs.Deadlines.{jobs, Sound, OverBy, Missed}
use Rattle.runs.proofs.DemandSums.{demand-push, overloaded_push, part-of-sum, sum-none}
use Rattle.runs.proofs.ReferenceRows.{AllRegular, Agree, regular_released, regular_ticked, run-keeps}
use Rattle.runs.proofs.ReferenceTick.{NoneBefore, Served, with_served, ticked_rows, by_tick, served-sum, tick_all, tick_jobs}

-- The ticks left of a job that is due by d.
abbrev owed : ℕ → Row → ℕ
owed d r = cond (leb r.job.deadline d) r.left 0

abbrev backlog : ℕ → List Row → ℕ
backlog d rows = sum_by (owed d) rows

owed-due : (d : ℕ) (r : Row) → r.job.deadline ≤ d → owed d r ≡ r.left
owed-due d r due = grind (arith, nat_tests)

owed_none : (d : ℕ) (r : Row) → (r.job.deadline ≤ d → r.left ≡ 0) → owed d r ≡ 0
owed_none d r none = grind (arith, nat_tests)

-- A tick takes one from every backlog that there is.
backlog-ticked : (after : ℕ) (rows : List Row) (d : ℕ) → backlog d (ticked_rows after rows) ≡ backlog d rows - 1
backlog-ticked after rows d =
    by_tick after rows (λ rs. backlog d rs ≡ backlog d rows - 1)
    (λ all_done. omega (arith, sum-none (owed d) rows (All-weaker _ _ (λ r none. owed_none d r (λ due. none)) rows all_done)))
    (λ e s first. ⊎_elim (later e s first) (due e s) (cases_lt d e))
  where
    nothing_left : (e : ℕ) (r : Row) → (0 < r.left → e ≤ r.job.deadline) → d < e → r.job.deadline ≤ d → r.left ≡ 0
    nothing_left e r first after due = ⊎_elim (λ some. omega (arith, first some)) (λ none. omega arith) (cases_lt 0 r.left)

    later : (e : ℕ) (s : Served e rows) → NoneBefore e rows → d < e → backlog d (with_served after e rows s) ≡ backlog d rows - 1
    later e s first after-d =
        let empty = sum-none (owed d) rows (All-weaker _ _ (λ r f. owed_none d r (nothing_left e r f after-d)) rows first) in
        let none = owed_none d s.row (λ due. omega (arith, s.due)) in
        let still-none = owed_none d (served after s.row) (λ due. omega (arith, s.due)) in
        omega (arith, served-sum (owed d) after e rows s)

    due : (e : ℕ) (s : Served e rows) → e ≤ d → backlog d (with_served after e rows s) ≡ backlog d rows - 1
    due e s by-d =
        let all = owed-due d s.row (omega (arith, s.due)) in
        let one_less = owed-due d (served after s.row) (omega (arith, s.due)) in
        omega (arith, served-sum (owed d) after e rows s, s.working)

-- A backlog u of the jobs due by d, with the ticks since some clock a, fits into the demand of [a, d).
abbrev Behind : ℕ → List Job → ℕ → ℕ → Type 0
Behind clock js d u = (u ≡ 0) ⊎ ((a : ℕ) × (a ≤ clock) × (a < d) × (u + (clock - a) ≤ demand js a d))

behind_ticked : (clock : ℕ) (js : List Job) (d u : ℕ) → Behind clock js d u → Behind (clock + 1) js d (u - 1)
behind_ticked clock js d u behind = grind (arith, nat_tests)

-- The job that a call releases at a clock.
abbrev job_released : ℕ → ℕ → ℕ → Job
job_released clock deadline budget = record { release = clock; deadline = deadline; budget = budget }

module _ (clock deadline budget : ℕ) (js : List Job) (d u : ℕ) where
  abbrev new : Job
  new = job_released clock deadline budget

  demand-with-new : (a : ℕ) → a ≤ clock → deadline ≤ d → demand (js ++ new ∷ []) a d ≡ demand js a d + budget
  demand-with-new a past due = grind (arith, nat_tests, demand-push js new a d)

  behind-released : clock < deadline → Behind clock js d u → Behind clock (js ++ new ∷ []) d (u + cond (leb deadline d) budget 0)
  behind-released ahead behind =
      cond_both (leb deadline d) budget 0 (λ x. Behind clock (js ++ new ∷ []) d (u + x))
      (λ e. due (leb-true deadline d e) behind) (λ e. later behind)
    where
      due : deadline ≤ d → Behind clock js d u → Behind clock (js ++ new ∷ []) d (u + budget)
      due h (inl none) = inr (clock, omega arith, omega arith, omega (arith, demand-with-new clock (omega arith) h))
      due h (inr (a, past, before, fits)) = inr (a, past, before, omega (arith, demand-with-new a past h))

      later : Behind clock js d u → Behind clock (js ++ new ∷ []) d (u + 0)
      later behind = grind (arith, nat_tests, λ (a : ℕ). demand-push js new a d)

-- A backlog at or past its deadline is an overload.
behind_late : (clock : ℕ) (js : List Job) (d u : ℕ) → d ≤ clock → 0 < u → Behind clock js d u → Overloaded js
behind_late clock js d u late some (inl none) = absurd (omega arith)
behind_late clock js d u late some (inr (a, past, before, fits)) = (a, d, before, omega arith)

-- An end is in time, or there is an overload.
abbrev Prompt : List Job → ℕ → Option ℕ → Type 0
Prompt js deadline None = Unit {0}
Prompt js deadline (Some end) = (end ≤ deadline) ⊎ Overloaded js

prompt_push : (js : List Job) (j : Job) (deadline : ℕ) (o : Option ℕ) → Prompt js deadline o → Prompt (js ++ j ∷ []) deadline o
prompt_push js j deadline o prompt = grind (arith, nat_tests, overloaded_push js j)

-- What holds throughout a run.
pub record OnTime (s : Reference) : Type 0 where
  pub regular : AllRegular s
  pub behind : (d : ℕ) → Behind s.clock (jobs s) d (backlog d s.rows)
  pub prompt : AllByRecursion (λ r. Prompt (jobs s) r.job.deadline r.end) s.rows

-- A job with ticks left at its deadline or later shows an overload.
overload_from : (s : Reference) → OnTime s → (r : Row) → ContainsAt s.rows r → 0 < r.left → r.job.deadline ≤ s.clock → Overloaded (jobs s)
overload_from s o r has working late =
    let d = r.job.deadline in
    behind_late s.clock (jobs s) d (backlog d s.rows) late
    (omega (arith, part-of-sum (owed d) s.rows r has, owed-due d r (omega arith))) (o.behind d)

fresh-on_time : OnTime fresh
fresh-on_time = record { regular = tt; behind = λ d. inl refl; prompt = tt }

released-on_time : (s : Reference) (deadline budget : ℕ) → 1 ≤ budget → s.clock < deadline → OnTime s → OnTime (step s (released deadline budget))
released-on_time s deadline budget some ahead o =
    record {
      regular = regular_released s deadline budget some o.regular;
      behind = λ d.
          subst₂ (λ js u. Behind s.clock js d u) (sym all-jobs) (sym (sum_by_push (owed d) s.rows _))
          (behind-released s.clock deadline budget (jobs s) d (backlog d s.rows) ahead (o.behind d));
      prompt =
          subst (λ js. AllByRecursion (λ r. Prompt js r.job.deadline r.end) (step s (released deadline budget)).rows) (sym all-jobs)
          (All-push _ s.rows _ (All-weaker _ _ (λ r prompt. prompt_push (jobs s) job r.job.deadline r.end prompt) s.rows o.prompt) tt);
    }
  where
    job : Job
    job = job_released s.clock deadline budget

    all-jobs : jobs (step s (released deadline budget)) ≡ jobs s ++ job ∷ []
    all-jobs = map_push (λ r. r.job) s.rows _

ticked-on_time : (s : Reference) → OnTime s → OnTime (step s ticked)
ticked-on_time s o =
    record {
      regular = regular_ticked s o.regular;
      behind = λ d.
          subst₂ (λ js u. Behind (s.clock + 1) js d u) (sym same-jobs) (sym (backlog-ticked (s.clock + 1) s.rows d))
          (behind_ticked s.clock (jobs s) d (backlog d s.rows) (o.behind d));
      prompt =
          subst (λ js. AllByRecursion (λ r. Prompt js r.job.deadline r.end) (step s ticked).rows) (sym same-jobs)
          (tick_all _ _ (s.clock + 1) s.rows (λ r prompt. prompt) served-prompt o.prompt);
    }
  where
    same-jobs : jobs (step s ticked) ≡ jobs s
    same-jobs = tick_jobs (s.clock + 1) s.rows

    served-prompt : (r : Row) → ContainsAt s.rows r → 0 < r.left → Prompt (jobs s) r.job.deadline r.end → Prompt (jobs s) r.job.deadline (served (s.clock + 1) r).end
    served-prompt r has working prompt = grind (arith, nat_tests, overload_from s o r has)

pub always_on_time : (calls : List Accepted) → Sound 0 calls → OnTime (run fresh calls)
always_on_time calls sound = run-keeps OnTime released-on_time ticked-on_time calls fresh sound fresh-on_time

-- A job that is missed shows an overload.
pub missed_shows_overload : (s : Reference) → OnTime s → (r : Row) → ContainsAt s.rows r → Missed s.clock r → Overloaded (jobs s)
missed_shows_overload s o r has (come, late) =
    go r.end (all-has _ s.rows r o.regular has).1 (all-has _ s.rows r o.prompt has) late
  where
    go : (end : Option ℕ) → Agree r.left end → Prompt (jobs s) r.job.deadline end → ¬ OverBy r.job.deadline end → Overloaded (jobs s)
    go end agree prompt late = grind (arith, nat_tests, overload_from s o r has)
