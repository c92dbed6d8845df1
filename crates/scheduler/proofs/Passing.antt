-- What a tick tells of the chosen job: it is right, it fits the words that record it, and it is what policy and renderer were
-- asked.
use Rattle.std.proofs.Common.{◌≡◌, ℕ, ◌-◌, ◌^◌, ◌<◌, List, [], ◌∷◌, Some, None, Option, sym, ap, ◌∙◌, subst, arith}
use Rattle.std.proofs.lemmas.Bool.{cond_both}
use Rattle.rates.proofs.Tables.{table_is_lawful}
use Rattle.renderers.specs.declared.answer.Answer.{Answer}
use Rattle.renderers.specs.declared.heard.Heard.{Heard}
use Rattle.renderers.specs.Requests.{heard}
use Rattle.scheduler.specs.declared.chosen.Chosen.{Chosen}
use Rattle.scheduler.specs.declared.day.Day.{Day}
use Rattle.scheduler.specs.declared.job.Job.{Job}
use Rattle.calls.specs.declared.ticked.Ran.{Ran}
use Rattle.calls.specs.declared.ticked.Switch.{Switch}
use Rattle.calls.specs.declared.ticked.Ticked.TheVariants.{Ran as ran}
use Rattle.scheduler.specs.Chooses.{Asks, Chooses, said}
use Rattle.scheduler.specs.Day.{DayState, ending_of, level_in, switch_to, runner, runs, told, Told, Paced, after_run, after_chosen, after_tick}
use Rattle.scheduler.specs.Good.{Numbered}
use Rattle.scheduler.specs.Model.{model}
use Rattle.scheduler.specs.Outcomes.{Asked, AskedFirst, Rendered}
use Rattle.scheduler.specs.Writable.{NumberFits, SwitchFits, RanFits}
use Rattle.scheduler.specs.Places.{due_place}
use Rattle.scheduler.proofs.Afterwards.{told-right}
use Rattle.scheduler.proofs.Choosing.{first_some, first-stands, first-within, numbers_low}
use Rattle.scheduler.proofs.KeptPlaces.{good, first_fits}

-- The number of a job that ran is one that was given out.
runner-fits : (js : List Job) (low high : ℕ) → Numbered low high js → high < 2 ^ 28 → NumberFits (runner js)
runner-fits [] low high rising small = tt
runner-fits (j ∷ js) low high rising small =
    cond_both (runs j) (Some j.number) (runner js) NumberFits
    (λ r. omega (arith, rising.1))
    (λ r. runner-fits js j.number high rising.2 small)

module _ (d : Day) (c : Chosen) (chooses : Chooses (model d) c) (given : Answer) where
  pub said-is-told : said c given ≡ told (model d) c.job c.level given
  said-is-told =
      let tells : Option Switch → ℕ → Ran =
      λ switch rate.
      record {
        job = c.job.number;
        switch = switch;
        rate = rate;
        answer = given;
        ending = ending_of given (c.job.remaining - rate);
      } in
      ap (λ switch. tells switch c.rate) chooses.switched
      ∙ ap (tells (switch_to (model d) c.job c.level)) chooses.rate

  number_fits : c.job.number < 2 ^ 28
  number_fits =
      let js = d.pending.items in
      let limits = good d in
      let within = first-within js (first_some js c.job chooses.first) in
      let low = numbers_low js 0 d.accepted (due_place js) c.job limits.numbered within in
      let same = ap (λ (j : Job). j.number) (first-stands js c.job chooses.first) in
      omega (arith, limits.numbers_low, limits.budgets_low)

  switch_fits : SwitchFits (switch_to (model d) c.job c.level)
  switch_fits =
      let limits = good d in
      let few = (table_is_lawful d.table).few in
      let bound = (first_fits d c.job chooses.first).1 in
      cond_both (runs c.job) None _ SwitchFits
      (λ r. tt)
      (λ r. (
        runner-fits (d.pending.items) 0 d.accepted limits.numbered (omega (arith, limits.numbers_low, limits.budgets_low)),
        omega (arith, chooses.in_table, few),
        omega (arith, bound, limits.clock_low, limits.budgets_low),
      ))

  module _ (r : Ran) (is : r ≡ said c given) where
    pub right : Told (model d) (ran r)
    right =
        let kept = ap (level_in c.job) (sym chooses.switched) ∙ chooses.kept in
        let paced = subst (Paced (model d) c.job) chooses.switched chooses.paced in
        subst (λ q. Told (model d) (ran q)) (sym (is ∙ said-is-told))
        (told-right (model d) c.job c.level chooses.first kept given paced)

    pub fits : RanFits r
    fits = subst RanFits (sym is) (number_fits, subst SwitchFits (sym chooses.switched) switch_fits)

    pub asked :
        {P : Type 0} (tells : P → List ℕ → ℕ → ℕ → Option ℕ → P → Type 0) (before after : P) →
        Asks tells (model d) c.job c.switch before after → Asked tells (model d) (ran r) before after
    asked tells before after asks =
        subst (λ o. AskedFirst tells (model d) r o before after) (sym chooses.first)
        (subst (λ switch. Asks tells (model d) c.job switch before after) (ap (λ (q : Ran). q.switch) (sym is)) asks)

    pub rendered :
        {R : Type 0} (meaning : R → Heard) (tells : R → ℕ → ℕ → Answer → R → Type 0) (before after : R) →
        meaning after ≡ heard (meaning before) c.job.number c.rate given →
        tells before c.job.number c.rate given after → Rendered meaning tells (ran r) before after
    rendered meaning tells before after hears runs_so =
        subst (λ q. Rendered meaning tells (ran q) before after) (sym is) (record { heard = hears; run = runs_so })

  -- The day is as after this tick.
  pub later : (r : Ran) (s : DayState) → s ≡ after_run (model d) c.job r → s ≡ after_tick (model d) (ran r)
  later r s is = is ∙ sym (ap (after_chosen (model d) r) chooses.first)
