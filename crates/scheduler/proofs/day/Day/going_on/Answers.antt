use Rattle.std.proofs.Common.{is_some, sym, refl, ap, subst}
use Rattle.std.proofs.lemmas.Bool.{cond-true}
use Rattle.rates.specs.Table.{rates_of}
use Rattle.scheduler.specs.declared.job.Stage.{Stage}
use Rattle.scheduler.specs.Day.{level_kept, paced, runner}
use Rattle.scheduler.specs.Good.{OnPace}
use Rattle.runs.specs.SlowRun as slow
use Rattle.scheduler.proofs.KeptPlaces.{first_good}
use Rattle.scheduler.proofs.day.Day.going_on.Goals as goal

pub rate_of-requires : goal.rate_of-requires
rate_of-requires c =
    let day = c.args.self.now in
    let job = c.args.job in
    let pace : Stage → Type 0 = OnPace (rates_of day.table) day.clock job.remaining in
    let level = subst pace c.requires.1 (first_good day job c.requires.0.first).on_pace in
    (level.0, level.1)

pub returns : goal.returns
returns c =
    let day = c.args.self.now in
    let job = c.args.job in
    let pace : Stage → Type 0 = OnPace (rates_of day.table) day.clock job.remaining in
    let level = subst pace c.requires.1 (first_good day job c.requires.0.first).on_pace in (
      record {
        here = c.requires.0.here;
        first = c.requires.0.first;
        switched = sym (cond-true _ _ _ (ap (λ (stage : Stage). slow.runs (paced stage)) c.requires.1));
        kept = ap level_kept c.requires.1;
        bound =
            sym
            (ap
            (λ (stage : Stage).
            slow.chosen_bound (paced stage) (is_some (runner (day.pending.items))) day.clock day.handed.bound day.handed.deadline job.budget job.deadline)
            c.requires.1);
        rate = c.rate_of.ensures;
        paced = tt;
        from_one = level.0;
        in_table = level.1;
      },
      (refl, refl),
    )
