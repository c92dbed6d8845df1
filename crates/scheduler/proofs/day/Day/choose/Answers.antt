use Rattle.std.proofs.Common.{ap, ⊎_elim}
use Rattle.scheduler.specs.declared.job.Stage.{Stage}
use Rattle.scheduler.specs.Day.{paced}
use Rattle.runs.specs.SlowRun as slow
use Rattle.scheduler.proofs.KeptPlaces.{place-stands}
use Rattle.scheduler.proofs.day.Day.choose.Goals as goal

pub going_on-requires : goal.going_on-requires
going_on-requires g c =
    (place-stands c.args.self.now c.args.place c.deref.result.now c.requires c.deref.ensures.0, c.in-Running.is)

pub switching-requires : goal.switching-requires
switching-requires g c =
    let runs = λ (stage : Stage). slow.runs (paced stage) in (
      place-stands c.args.self.now c.args.place c.deref.result.now c.requires c.deref.ensures.0,
      ⊎_elim (λ waits. ap runs waits) (λ aside. ap runs aside.2) c.in-Waiting.is,
    )
