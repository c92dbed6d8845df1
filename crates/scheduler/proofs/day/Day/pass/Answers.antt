use Rattle.std.proofs.Common.{refl, ap, ◌∙◌}
use Rattle.std.proofs.lemmas.Bool.{cond-true, lt-ltb}
use Rattle.calls.specs.declared.ticked.Ticked.TheVariants.{Idle}
use Rattle.scheduler.specs.Day.{first_job, passed}
use Rattle.scheduler.proofs.Choosing.{first-place_none}
use Rattle.scheduler.proofs.KeptPlaces.{led_on}
use Rattle.scheduler.proofs.Passing.{right, fits, asked, rendered, later}
use Rattle.scheduler.proofs.day.Day.pass.Goals as goal

pub invariant_of-self : goal.invariant_of-self
invariant_of-self g c =
    let day = c.args.self.now in
    let none = first-place_none day.pending.items (day.first_holds ∙ c.in_default.is) in
    record {
      reached = led_on day (passed Idle) _ (cond-true _ _ _ (lt-ltb day.clock 134217727 c.requires), ap first_job none) refl;
      first_holds = day.first_holds;
      running_holds = day.running_holds;
    }

pub returns : goal.returns
returns g c =
    let day = c.args.self.now in
    let chosen = c.choose-chosen.result in
    let chooses = c.choose-chosen.ensures.chosen in
    let r = c.run-ran.result in
    let answer = r.answer in
    let is = c.run-ran.ensures.told in
    record {
      told = right day chosen chooses answer r is;
      day = later day chosen chooses answer r _ c.settle.ensures;
      fits = fits day chosen chooses answer r is;
      policy = asked day chosen chooses answer r is g.P.Policy.tells _ _ c.choose-chosen.ensures.asked;
      renderer =
          rendered day chosen chooses answer r is g.R.Renderer.meaning g.R.Renderer.tells _ _ c.run-ran.ensures.heard
          c.run-ran.ensures.ran;
    }
