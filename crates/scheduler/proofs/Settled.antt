-- What a tick that ran the chosen job makes of a day that exists, and of the places that it keeps.
use Rattle.std.proofs.Common.{◌≡◌, ℕ, ◌<◌, List, length, get_or, set, Some, None, Option, sym, refl, ap, ◌∙◌, subst, arith}
use Rattle.std.specs.List.{remove}
use Rattle.std.proofs.lemmas.List.{length-map, length-set, get_or-set_same}
use Rattle.std.proofs.lemmas.Bool.{cond-true, lt-ltb}
use Rattle.std.proofs.lemmas.Bool.Decides.{nat_tests}
use Rattle.rates.specs.declared.level.Level.{Level}
use Rattle.rates.specs.Table.{rate_of, rates_of}
use Rattle.rates.proofs.Tables.{table_is_lawful}
use Rattle.renderers.specs.declared.answer.Answer.{Answer}
use Rattle.renderers.specs.declared.answer.Answer.TheVariants.{Finished, Running, Failed}
use Rattle.ordering.specs.First.{First}
use Rattle.scheduler.specs.declared.chosen.Chosen.{Chosen}
use Rattle.scheduler.specs.declared.day.Day.{Day}
use Rattle.scheduler.specs.declared.job.Job.{Job}
use Rattle.calls.specs.declared.ticked.Ending.{Ending}
use Rattle.calls.specs.declared.ticked.Ran.{Ran}
use Rattle.calls.specs.declared.ticked.Ticked.TheVariants.{Ran as ran}
use Rattle.scheduler.specs.Chooses.{Chooses, run_on}
use Rattle.scheduler.specs.Day.{DayState, Reached, bound_of, level_in, switch_to, told, Paced, make_way, after_run, passed, runs}
use Rattle.scheduler.specs.Good.{Good, running}
use Rattle.scheduler.specs.Model.{model}
use Rattle.scheduler.specs.Places.{job_before, job_equal, smallest_place, due_place, first_place, runner_place}
use Rattle.scheduler.proofs.Afterwards.{a_tick_later, told-right, after-told, after-going-on, after-ending}
use Rattle.scheduler.proofs.Choosing.{dues, due-at, dues-set, first-stands, first-place_some, first-place_is, found_place}
use Rattle.scheduler.proofs.GoodAtMostOnce.{somehow_reached_good}
use Rattle.scheduler.proofs.KeptPlaces.{good, led_on, place-within}
use Rattle.scheduler.proofs.Runner.{dues-make_way, nobody_runs, runner-place_is, running-without}

-- A job that no ending is told of runs on, and something remains of it.
still_running :
    (s : DayState) (m : Job) (level : Level) (given : Answer) → (told s m level given).ending ≡ None →
    (given ≡ Running) × (rate_of s.rates level.0 < m.remaining)
still_running s m level Running e = (refl, grind (arith, nat_tests))
still_running s m level Finished e = let z : ◌≡◌ {A = ℕ} 0 1 = cc in absurd (omega arith)
still_running s m level (Failed code) e = let z : ◌≡◌ {A = ℕ} 0 1 = cc in absurd (omega arith)

module _ (d : Day) (c : Chosen) (chooses : Chooses (model d) c) (early : d.clock < 134217727) where
  abbrev js : List Job
  js = d.pending.items

  -- The other jobs, once way was made for the chosen one.
  abbrev pub others : List Job
  others = make_way c.job d.clock js

  kept : level_in c.job (switch_to (model d) c.job c.level) ≡ c.level
  kept = ap (level_in c.job) (sym chooses.switched) ∙ chooses.kept

  placed : c.place ≡ due_place js
  placed = (first-place_is js c.place chooses.here).1

  pub chosen-within : c.place < length js
  chosen-within = place-within d c.place chooses.here

  pub others-as-many : length others ≡ length js
  others-as-many =
      sym (length-map others (λ (j : Job). j.deadline))
      ∙ ap length (dues-make_way c.job d.clock js)
      ∙ length-map js (λ (j : Job). j.deadline)

  stands : c.job ≡ get_or js c.place c.job
  stands = first-stands js c.job chooses.first ∙ ap (λ p. get_or js p c.job) (sym placed)

  -- The day after a tick of this job is reached.
  run-leads-on :
      (given : Answer) (s : DayState) → after_run (model d) c.job (told (model d) c.job c.level given) ≡ s → ∥ Reached s ∥₁
  run-leads-on given s is =
      let paced = subst (Paced (model d) c.job) chooses.switched chooses.paced in
      led_on d (passed (ran (told (model d) c.job c.level given))) s (
        cond-true _ _ _ (lt-ltb d.clock 134217727 early),
        told-right (model d) c.job c.level chooses.first kept given paced,
      )
      (after-told (model d) c.job c.level chooses.first kept given ∙ is)

  good-later : (ks : List Job) (handed_bound handed_deadline : ℕ) → ∥ Reached (a_tick_later (model d) ks handed_bound handed_deadline) ∥₁ → Good (a_tick_later (model d) ks handed_bound handed_deadline)
  good-later ks handed_bound handed_deadline reached =
      somehow_reached_good (a_tick_later (model d) ks handed_bound handed_deadline) (table_is_lawful d.table) reached

  -- What is told of it has no ending: it goes on.
  module _ (r : Ran) (is : r ≡ told (model d) c.job c.level r.answer) where
    pub goes-on : r.ending ≡ None → (c.rate < c.job.remaining) × (after_run (model d) c.job r ≡ after_run (model d) c.job (told (model d) c.job c.level Running))
    goes-on none =
        let run = still_running (model d) c.job c.level r.answer (sym (ap (λ (q : Ran). q.ending) is) ∙ none) in (
          subst (λ n. n < c.job.remaining) (sym chooses.rate) run.1,
          ap (after_run (model d) c.job) is ∙ ap (λ given. after_run (model d) c.job (told (model d) c.job c.level given)) run.0,
        )

    -- Or it has one: how it ended makes no difference to the day.
    pub is-over : (e : Ending) → r.ending ≡ Some e → after_run (model d) c.job r ≡ after_run (model d) c.job (told (model d) c.job c.level Finished)
    is-over e over =
        ap (after_run (model d) c.job) is
        ∙ ap (λ o. after_run (model d) c.job (record (told (model d) c.job c.level Finished) { ending = o }))
        (sym (ap (λ (q : Ran). q.ending) is) ∙ over)

  -- The job goes on.
  module _
      (ks : List Job) (more : c.rate < c.job.remaining)
      (is : ks ≡ set others c.place (run_on c.job c.bound c.level c.rate)) where
    pub gone-on :
        after_run (model d) c.job (told (model d) c.job c.level Running)
        ≡ a_tick_later (model d) ks d.handed.bound d.handed.deadline
    gone-on =
        let rate = rate_of (rates_of d.table) c.level.0 in
        let state : ℕ → ℕ → ℕ → DayState =
        λ p bound rate.
        a_tick_later (model d) (set others p (run_on c.job bound c.level rate)) d.handed.bound d.handed.deadline in
        after-going-on (model d) c.job c.level chooses.first kept (subst (λ n. n < c.job.remaining) chooses.rate more)
        ∙ ap (λ p. state p (bound_of (model d) c.job) rate) (sym placed)
        ∙ ap (λ bound. state c.place bound rate) (sym chooses.bound)
        ∙ ap (state c.place c.bound) (sym chooses.rate)
        ∙ ap (λ pending. a_tick_later (model d) pending d.handed.bound d.handed.deadline) (sym is)

    pub gone-on-reached : ∥ Reached (a_tick_later (model d) ks d.handed.bound d.handed.deadline) ∥₁
    gone-on-reached = run-leads-on Running _ gone-on

    -- It is still the first, and it is the one that ran.
    pub gone-on-first : first_place ks ≡ d.first
    gone-on-first =
        let job = run_on c.job c.bound c.level c.rate in
        let long = ap length is ∙ length-set others c.place job ∙ others-as-many in
        let due : c.job.deadline ≡ get_or (dues js) c.place 0 =
        ap (λ (j : Job). j.deadline) stands ∙ sym (due-at js c.place c.job chosen-within) in
        first-place_some ks (omega (arith, long, chosen-within))
        ∙ ap Some
        (ap due_place is ∙ ap smallest_place (dues-set js others c.place job (dues-make_way c.job d.clock js) due) ∙ sym placed)
        ∙ sym chooses.here
        ∙ d.first_holds

    pub gone-on-runs : runner_place ks ≡ Some c.place
    gone-on-runs =
        let job = run_on c.job c.bound c.level c.rate in
        let many = ap length is ∙ length-set others c.place job ∙ others-as-many in
        let one = (good-later ks _ _ gone-on-reached).one_runs in
        let there = ap (λ qs. get_or qs c.place c.job) is ∙ get_or-set_same others c.place job c.job (omega (arith, others-as-many, chosen-within)) in
        runner-place_is ks c.place c.job one (omega (arith, many, chosen-within)) (ap runs there)

  -- The job is over.
  module _ (ks : List Job) (is : ks ≡ remove others c.place) where
    pub ended :
        after_run (model d) c.job (told (model d) c.job c.level Finished)
        ≡ a_tick_later (model d) ks c.bound c.job.deadline
    ended =
        let state : ℕ → ℕ → DayState = λ p bound. a_tick_later (model d) (remove others p) bound c.job.deadline in
        after-ending (model d) c.job c.level chooses.first kept
        ∙ ap (λ p. state p (bound_of (model d) c.job)) (sym placed)
        ∙ ap (state c.place) (sym chooses.bound)
        ∙ ap (λ pending. a_tick_later (model d) pending c.bound c.job.deadline) (sym is)

    pub ended-reached : ∥ Reached (a_tick_later (model d) ks c.bound c.job.deadline) ∥₁
    ended-reached = run-leads-on Finished _ ended

    pub ended-first :
        (qs : List Job) (o : Option ℕ) → qs ≡ ks →
        (elim o as (λ x. Type 0) [ None ↦ length qs ≡ 0 | Some p ↦ First job_before job_equal qs p ]) → first_place ks ≡ o
    ended-first qs o same found =
        found_place ks 0 d.accepted o (good-later ks _ _ ended-reached).numbered
        (subst (λ ls. elim o as (λ x. Type 0) [ None ↦ length ls ≡ 0 | Some p ↦ First job_before job_equal ls p ]) same found)

    -- Nobody runs.
    pub ended-runs : runner_place ks ≡ None
    ended-runs =
        nobody_runs ks
        (ap (λ qs. running qs) is ∙ running-without c.job d.clock js c.place (good d).one_runs chosen-within stands)
