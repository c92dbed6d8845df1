use Rattle.std.proofs.Common.{◌≡◌, ℕ, ◌<◌, List, length, get_or, set, Some, sym, ap, ◌∙◌, arith}
use Rattle.std.proofs.lemmas.List.{get_or_default}
use Rattle.scheduler.specs.declared.job.Job.{Job}
use Rattle.scheduler.specs.declared.job.Stage.{Stage}
use Rattle.scheduler.specs.Day.{set_aside}
use Rattle.scheduler.specs.Places.{runner_place}
use Rattle.scheduler.proofs.Choosing.{no_job}
use Rattle.scheduler.proofs.Runner.{runner-within, make_way_one, make_way_none}
use Rattle.scheduler.proofs.Written.{written}
use Rattle.scheduler.proofs.day.settling.make_way.Goals as goal

-- The place of the job that ran is one of the vector, however it is reached.
within : (js qs : List Job) (place : ℕ) → runner_place js ≡ Some place → qs ≡ js → place < length qs
within js qs place at same = omega (arith, runner-within js place at, ap length same)

pub offset_bounds-deref-place : goal.offset_bounds-deref-place
offset_bounds-deref-place c =
    omega (arith, within _ _ c.in-Some.place (c.requires.0 ∙ c.in-Some.is) c.deref.ensures.0, c.deref.ensures.1)

pub bounds-deref-place : goal.bounds-deref-place
bounds-deref-place c = within _ _ c.in-Some.place (c.requires.0 ∙ c.in-Some.is) c.deref.ensures.0

pub offset_bounds-deref_mut-place : goal.offset_bounds-deref_mut-place
offset_bounds-deref_mut-place c =
    omega (arith, within _ _ c.in-Some.place (c.requires.0 ∙ c.in-Some.is) c.deref_mut.ensures.value, c.deref_mut.ensures.fits)

pub bounds-deref_mut-place : goal.bounds-deref_mut-place
bounds-deref_mut-place c = within _ _ c.in-Some.place (c.requires.0 ∙ c.in-Some.is) c.deref_mut.ensures.value

pub returns-in-Some : goal.returns-in-Some
returns-in-Some c =
    let js = c.args.pending.now.items in
    let place = c.in-Some.place in
    let at = c.requires.0 ∙ c.in-Some.is in
    let aside : List Job → Stage → Job =
    λ qs stage.
    let j = get_or qs place no_job in
    record { number = j.number; deadline = j.deadline; budget = j.budget; remaining = j.remaining; stage = stage } in
    written js c.deref_mut.result.now place (aside c.deref_mut.result.now c.set_aside.result) c.deref_mut.ensures.value
    ∙ ap (λ qs. set js place (aside qs c.set_aside.result)) c.deref_mut.ensures.value
    ∙ ap (λ stage. set js place (aside js stage)) (c.set_aside.ensures ∙ ap (λ (qs : List Job). set_aside c.args.clock (get_or qs place no_job).stage) c.deref.ensures.0)
    ∙ sym
    (make_way_one c.args.chosen.now c.args.clock js place (get_or js place no_job) (sym c.if-is_running.ensures) c.requires.1 at
    (get_or_default js place no_job (get_or js place no_job) (runner-within js place at)))

pub returns-in_default : goal.returns-in_default
returns-in_default c =
    sym
    (make_way_none c.args.chosen.now c.args.clock c.args.pending.now.items (sym c.if-is_running.ensures)
    (c.requires.0 ∙ c.in_default.is))
