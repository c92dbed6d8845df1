use Rattle.std.proofs.Common.{List, set, sym, ap, ◌∙◌}
use Rattle.std.specs.List.{remove}
use Rattle.scheduler.specs.declared.job.Job.{Job}
use Rattle.scheduler.specs.Chooses.{run_on}
use Rattle.scheduler.proofs.KeptPlaces.{good}
use Rattle.scheduler.proofs.Settled.{goes-on, is-over, gone-on, gone-on-reached, gone-on-first, gone-on-runs, ended, ended-reached, ended-first, ended-runs}
use Rattle.scheduler.proofs.Written.{written}
use Rattle.scheduler.proofs.day.Day.settle.Goals as goal

pub make_way-requires : goal.make_way-requires
make_way-requires c = (c.args.self.now.running_holds, (good c.args.self.now).one_runs)

pub invariant_of-self : goal.invariant_of-self
invariant_of-self c =
    let day = c.args.self.now in
    let chosen = c.args.chosen.now in
    let left = c.make_way.new.pending.items in
    let written_to = c.deref_mut.result.now in
    let job = run_on chosen.job chosen.bound chosen.level chosen.rate in
    let is =
    written left written_to chosen.place c.run_on.result c.deref_mut.ensures.value
    ∙ ap (set left chosen.place) c.run_on.ensures
    ∙ ap (λ (ks : List Job). set ks chosen.place job) c.make_way.ensures in
    let more = (goes-on day chosen c.requires.chosen c.requires.early c.args.ran.now c.requires.told c.in-None.is).0 in
    record {
      reached = gone-on-reached day chosen c.requires.chosen c.requires.early _ more is;
      first_holds = gone-on-first day chosen c.requires.chosen c.requires.early _ more is;
      running_holds = gone-on-runs day chosen c.requires.chosen c.requires.early _ more is;
    }

pub invariant_of-self-in-Some : goal.invariant_of-self-in-Some
invariant_of-self-in-Some c =
    let day = c.args.self.now in
    let chosen = c.args.chosen.now in
    let pending = c.take_out.new.pending.items in
    let is = c.take_out.ensures ∙ ap (λ (ks : List Job). remove ks chosen.place) c.make_way.ensures in
    record {
      reached = ended-reached day chosen c.requires.chosen c.requires.early pending is;
      first_holds =
          ended-first day chosen c.requires.chosen c.requires.early pending is c.as_slice.result.now c.first_of-self.result
          c.as_slice.ensures.value c.first_of-self.ensures;
      running_holds = ended-runs day chosen c.requires.chosen c.requires.early pending is;
    }

pub returns-in-None : goal.returns-in-None
returns-in-None c =
    let day = c.args.self.now in
    let chosen = c.args.chosen.now in
    let left = c.make_way.new.pending.items in
    let written_to = c.deref_mut.result.now in
    let job = run_on chosen.job chosen.bound chosen.level chosen.rate in
    let is =
    written left written_to chosen.place c.run_on.result c.deref_mut.ensures.value
    ∙ ap (set left chosen.place) c.run_on.ensures
    ∙ ap (λ (ks : List Job). set ks chosen.place job) c.make_way.ensures in
    let on = goes-on day chosen c.requires.chosen c.requires.early c.args.ran.now c.requires.told c.in-None.is in
    sym (on.1 ∙ gone-on day chosen c.requires.chosen c.requires.early _ on.0 is)

pub returns-in-Some : goal.returns-in-Some
returns-in-Some c =
    let day = c.args.self.now in
    let chosen = c.args.chosen.now in
    let is = c.take_out.ensures ∙ ap (λ (ks : List Job). remove ks chosen.place) c.make_way.ensures in
    sym
    (is-over day chosen c.requires.chosen c.requires.early c.args.ran.now c.requires.told c.in-Some.field-0 c.in-Some.is
    ∙ ended day chosen c.requires.chosen c.requires.early c.take_out.new.pending.items is)
