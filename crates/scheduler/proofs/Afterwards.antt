-- The day after a tick that ran the chosen job: where it goes on, and where it is over.
use Rattle.std.proofs.Common.{◌≡◌, ℕ, ◌+◌, ◌-◌, ◌<◌, List, [], ◌∷◌, get_or, set, Some, None, Option, sym, ap, ◌∙◌, subst, arith}
use Rattle.std.specs.List.{remove}
use Rattle.std.proofs.lemmas.Bool.{cond-false, ne_eqb}
use Rattle.rates.specs.declared.level.Level.{Level}
use Rattle.rates.specs.Table.{rate_of}
use Rattle.renderers.specs.declared.answer.Answer.{Answer}
use Rattle.renderers.specs.declared.answer.Answer.TheVariants.{Finished, Running as running_answer}
use Rattle.scheduler.specs.declared.job.Job.{Job}
use Rattle.calls.specs.declared.ticked.Ending.{Ending}
use Rattle.calls.specs.declared.ticked.Ticked.TheVariants.{Ran as ran}
use Rattle.scheduler.specs.Chooses.{run_on}
use Rattle.scheduler.specs.Day.{DayState, first_job, switch_to, level_in, bound_of, told, Told, ToldChosen, Paced, make_way, left_of, amend, handed, ending_of, after, after_run, after_chosen, passed}
use Rattle.scheduler.specs.Places.{due_place}
use Rattle.scheduler.proofs.Choosing.{first_some, first-stands, set_first, remove_first}
use Rattle.scheduler.proofs.Runner.{dues-make_way}

-- A day one tick later, with these jobs pending and what was handed on.
abbrev pub a_tick_later : DayState → List Job → ℕ → ℕ → DayState
a_tick_later s pending handed_bound handed_deadline =
    record {
      rates = s.rates;
      clock = s.clock + 1;
      accepted = s.accepted;
      budgets = s.budgets;
      pending = pending;
      handed_bound = handed_bound;
      handed_deadline = handed_deadline;
    }

module _
    (s : DayState) (m : Job) (level : Level) (found : first_job s.pending ≡ Some m)
    (kept : level_in m (switch_to s m level) ≡ level) where
  abbrev rate : ℕ
  rate = rate_of s.rates level.0

  -- The other jobs, once way was made for this one.
  abbrev others : List Job
  others = make_way m s.clock s.pending

  -- What is told of the job is right, if its level suffices.
  pub told-right : (given : Answer) → Paced s m (switch_to s m level) → Told s (ran (told s m level given))
  told-right given paced =
      let r = told s m level given in
      subst (ToldChosen s r) (sym found) (ap (λ l. told s m l given) (sym kept), paced)

  pub after-told : (given : Answer) → after s (passed (ran (told s m level given))) ≡ after_run s m (told s m level given)
  after-told given = ap (after_chosen s (told s m level given)) found

  -- The day after the tick, by the level of the job and its ending.
  abbrev settled : Level → Option Ending → DayState
  settled l e =
      a_tick_later s (amend m.deadline (left_of m (bound_of s m) l rate e) others) (handed e (bound_of s m) s.handed_bound)
      (handed e m.deadline s.handed_deadline)

  in-its-place : (new : List Job) → amend m.deadline new others ≡ amend (get_or s.pending (due_place s.pending) m).deadline new others
  in-its-place new = ap (λ (j : Job). amend j.deadline new others) (first-stands s.pending m found)

  -- A job of which something remains goes on.
  pub after-going-on :
      rate < m.remaining →
      after_run s m (told s m level running_answer)
      ≡ a_tick_later s (set others (due_place s.pending) (run_on m (bound_of s m) level rate)) s.handed_bound s.handed_deadline
  after-going-on more =
      let left = m.remaining - rate in
      let no-ending : ending_of running_answer left ≡ None = cond-false _ _ _ (ne_eqb left 0 (λ none. omega arith)) in
      let job = run_on m (bound_of s m) level rate in
      ap (λ l. settled l (ending_of running_answer left)) kept
      ∙ ap (settled level) no-ending
      ∙ ap (λ pending. a_tick_later s pending s.handed_bound s.handed_deadline)
      (in-its-place (job ∷ [])
      ∙ set_first s.pending others job m (first_some s.pending m found) (dues-make_way m s.clock s.pending))

  -- A job that is over is taken out, and hands its bound and its deadline on.
  pub after-ending :
      after_run s m (told s m level Finished)
      ≡ a_tick_later s (remove others (due_place s.pending)) (bound_of s m) m.deadline
  after-ending =
      ap (λ pending. a_tick_later s pending (bound_of s m) m.deadline)
      (in-its-place []
      ∙ remove_first s.pending others m (first_some s.pending m found) (dues-make_way m s.clock s.pending))
