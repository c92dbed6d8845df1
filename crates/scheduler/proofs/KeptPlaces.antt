-- What is known of a day by its fields: it is a good one, calls lead on from it, and the places that it keeps.
use Rattle.std.proofs.Common.{◌≡◌, ℕ, ◌<◌, cond, List, [], ◌∷◌, ◌++◌, length, get_or, is_some, Some, None, Option, sym, refl, ap, ◌∙◌, subst, arith}
use Rattle.std.specs.Option.{option_map}
use Rattle.std.proofs.lemmas.List.{get_or_default}
use Rattle.rates.proofs.Tables.{table_is_lawful}
use Rattle.scheduler.specs.declared.day.Day.{Day}
use Rattle.scheduler.specs.declared.job.Job.{Job}
use Rattle.scheduler.specs.Chooses.{Stands}
use Rattle.scheduler.specs.Day.{DayState, Event, Reached, Possible, after, first_job, runner}
use Rattle.scheduler.specs.Good.{Good, GoodJob, ChosenGood}
use Rattle.scheduler.specs.Model.{model}
use Rattle.scheduler.specs.Places.{job_before, due_place, first_place}
use Rattle.scheduler.proofs.Accepting.{first-push}
use Rattle.scheduler.proofs.Choosing.{no_job, first-within, first-job_at, first-has, first-place_is, first-place_none}
use Rattle.scheduler.proofs.Runner.{runner-number, runner-within}
use Rattle.scheduler.proofs.GoodAtMostOnce.{somehow_reached_good, somehow_reached_after}

pub good : (d : Day) → Good (model d)
good d = somehow_reached_good (model d) (table_is_lawful d.table) d.reached

-- The first job of a day is good, and has time enough.
pub first_good : (d : Day) (j : Job) → first_job d.pending.items ≡ Some j → GoodJob (model d) j
first_good d j found = first-has (GoodJob (model d)) d.pending.items j found (good d).jobs_good

pub first_fits : (d : Day) (j : Job) → first_job d.pending.items ≡ Some j → ChosenGood (model d) (Some j)
first_fits d j found = subst (ChosenGood (model d)) found (good d).chosen_good

-- The day after a call that it could accept is reached too.
pub led_on : (d : Day) (e : Event) (s : DayState) → Possible (model d) e → after (model d) e ≡ s → ∥ Reached s ∥₁
led_on d e s possible same =
    subst (λ t. ∥ Reached t ∥₁) same (somehow_reached_after (model d) e d.reached possible)

-- The place of the first job is one of a pending job.
pub place-within : (d : Day) (p : ℕ) → first_place d.pending.items ≡ Some p → p < length d.pending.items
place-within d p here =
    let at = first-place_is d.pending.items p here in
    omega (arith, at.1, first-within d.pending.items at.0)

-- The job that is read there is the first one.
pub place-stands :
    (d : Day) (p : ℕ) (read : List Job) → first_place d.pending.items ≡ Some p → read ≡ d.pending.items →
    Stands (model d) p (get_or read p no_job)
place-stands d p read here is =
    let js = d.pending.items in
    let at = first-place_is js p here in
    record {
      here = here;
      first =
          first-job_at js no_job at.0
          ∙ ap (λ q. Some (get_or js q no_job)) (sym at.1)
          ∙ ap (λ qs. Some (get_or qs p no_job)) (sym is);
    }

-- The first job once another with a larger number stands behind the others.
pub place-push :
    (d : Day) (p : ℕ) (j : Job) (read : List Job) → d.accepted < j.number → d.first ≡ Some p → read ≡ d.pending.items →
    first_place (d.pending.items ++ j ∷ []) ≡ Some (cond (job_before j (get_or read p no_job)) (length d.pending.items) p)
place-push d p j read larger kept is =
    let js = d.pending.items in
    let at = first-place_is js p (d.first_holds ∙ kept) in
    let first = get_or read p no_job in
    let stands : first ≡ get_or js (due_place js) first =
    ap (λ qs. get_or qs p no_job) is
    ∙ ap (λ q. get_or js q no_job) at.1
    ∙ get_or_default js (due_place js) no_job first (first-within js at.0) in
    first-push js d.accepted j first (good d).numbered larger at.0 stands
    ∙ ap (λ q. Some (cond (job_before j first) (length js) q)) (sym at.1)

-- A job that comes to none is the first.
pub place-alone :
    (d : Day) (j : Job) → d.first ≡ None → first_place (d.pending.items ++ j ∷ []) ≡ Some (length d.pending.items)
place-alone d j kept =
    let none = first-place_none d.pending.items (d.first_holds ∙ kept) in
    let only : due_place (j ∷ []) ≡ 0 = omega (arith, first-within (j ∷ []) (omega arith)) in
    ap (λ qs. first_place (qs ++ j ∷ [])) none ∙ ap Some only ∙ ap (λ (qs : List Job). Some (length qs)) (sym none)

-- The number of the job that ran is that of the job at the place that the day keeps.
pub kept_runner_number : (d : Day) (j : Job) → runner d.pending.items ≡ option_map (λ p. (get_or d.pending.items p j).number) d.running
kept_runner_number d j =
    let js = d.pending.items in
    runner-number js j ∙ ap (option_map (λ p. (get_or js p j).number)) d.running_holds

pub kept_runner_within : (d : Day) (p : ℕ) → d.running ≡ Some p → p < length d.pending.items
kept_runner_within d p at = runner-within d.pending.items p (d.running_holds ∙ at)

mapped_some : {X : Type 0} (f : ℕ → X) (o : Option ℕ) → is_some (option_map f o) ≡ is_some o
mapped_some f None = refl
mapped_some f (Some p) = refl

-- Somebody ran in the tick before exactly when a place is kept for it.
pub kept_somebody : (d : Day) (j : Job) → is_some (runner d.pending.items) ≡ is_some d.running
kept_somebody d j =
    ap is_some (kept_runner_number d j) ∙ mapped_some (λ p. (get_or d.pending.items p j).number) d.running
