use Rattle.std.proofs.Common.{Some, sym, ap, ◌∙◌}
use Rattle.std.proofs.lemmas.Bool.{cond-true, cond-false}
use Rattle.scheduler.proofs.KeptPlaces.{place-push, place-alone}
use Rattle.scheduler.proofs.day.Day.first_with.Goals as goal
use Rattle.scheduler.proofs.day.Day.first_with.Goals.{in_default-via-in-Some+else-not-is_before, in_default-via-in_default}

pub returns-in-Some : goal.returns-in-Some
returns-in-Some c =
    place-push c.args.self.now c.in-Some.place c.args.job.now c.deref.result.now c.requires c.in-Some.is c.deref.ensures.0
    ∙ ap Some (cond-false _ _ _ (sym c.is_before.ensures ∙ c.if-not-is_before.true))

pub returns-in_default : goal.returns-in_default
returns-in_default c =
    elim c.in_default.branch [
      | in_default-via-in-Some+else-not-is_before w ↦
          place-push c.args.self.now w.in-Some.place c.args.job.now w.deref.result.now c.requires w.in-Some.is w.deref.ensures.0
          ∙ ap Some (cond-true _ _ _ (sym w.is_before.ensures ∙ w.if-not-is_before.false) ∙ sym c.len.ensures.value)
      | in_default-via-in_default w ↦
          place-alone c.args.self.now c.args.job.now w.in_default.is ∙ ap Some (sym c.len.ensures.value)
    ]
