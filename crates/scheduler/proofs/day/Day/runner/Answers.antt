use Rattle.std.proofs.Common.{length, get_or, Some, sym, ap, ◌∙◌, arith}
use Rattle.std.specs.Option.{option_map}
use Rattle.scheduler.proofs.Choosing.{no_job}
use Rattle.scheduler.proofs.KeptPlaces.{kept_runner_number, kept_runner_within}
use Rattle.scheduler.proofs.day.Day.runner.Goals as goal

pub returns : goal.returns
returns c =
    let day = c.args.self.now in
    let place = c.in_ok-place.place in
    ap (λ qs. Some (get_or qs place no_job).number) c.deref.ensures.0
    ∙ sym
    (kept_runner_number day no_job ∙ ap (option_map (λ p. (get_or day.pending.items p no_job).number)) c.in_ok-place.was)

pub returns-in_err-place : goal.returns-in_err-place
returns-in_err-place c =
    let day = c.args.self.now in
    let nobody = kept_runner_number day no_job ∙ ap (option_map (λ p. (get_or day.pending.items p no_job).number)) c.in_err-place.was in
    c.from_residual.ensures ∙ sym nobody

pub offset_bounds-deref-place : goal.offset_bounds-deref-place
offset_bounds-deref-place c =
    omega (arith, kept_runner_within c.args.self.now c.in_ok-place.place c.in_ok-place.was, ap length c.deref.ensures.0, c.deref.ensures.1)

pub bounds-deref-place : goal.bounds-deref-place
bounds-deref-place c =
    omega (arith, kept_runner_within c.args.self.now c.in_ok-place.place c.in_ok-place.was, ap length c.deref.ensures.0)
