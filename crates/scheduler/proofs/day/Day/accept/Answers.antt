use Rattle.std.proofs.Common.{◌≡◌, ℕ, ◌+◌, ◌*◌, List, [], ◌∷◌, ◌++◌, sym, refl, ap, ◌∙◌, arith}
use Rattle.rates.specs.Table.{rates_of, top_rate}
use Rattle.scheduler.specs.declared.job.Job.{Job}
use Rattle.scheduler.specs.declared.job.Stage.TheVariants.{Waiting}
use Rattle.scheduler.specs.Day.{DayState, arrived}
use Rattle.scheduler.specs.Places.{first_place, runner_place}
use Rattle.scheduler.proofs.KeptPlaces.{good, led_on}
use Rattle.scheduler.proofs.Runner.{runner-push}
use Rattle.scheduler.proofs.day.Day.accept.Goals as goal

pub overflow_add-number : goal.overflow_add-number
overflow_add-number c =
    let day = good c.args.self.now in omega (arith, day.numbers_low, day.budgets_low)

pub invariant_of-self : goal.invariant_of-self
invariant_of-self c =
    let day = c.args.self.now in
    let js = day.pending.items in
    let job : ℕ → Job =
    λ rate.
    record {
      number = day.accepted + 1;
      deadline = c.args.deadline;
      budget = c.args.budget;
      remaining = c.args.budget * rate;
      stage = Waiting;
    } in
    let pushed : c.push.new.self.items ≡ js ++ job (top_rate (rates_of day.table)) ∷ [] =
    c.push.ensures.items ∙ ap (λ rate. js ++ job rate ∷ []) c.top_rate.ensures in
    let state : List Job → DayState =
    λ pending.
    record {
      rates = rates_of day.table;
      clock = day.clock;
      accepted = day.accepted + 1;
      budgets = day.budgets + c.args.budget;
      pending = pending;
      handed_bound = day.handed.bound;
      handed_deadline = day.handed.deadline;
    } in
    record {
      reached = led_on day (arrived c.args.deadline c.args.budget) _ c.requires (ap state (sym pushed));
      first_holds = ap first_place c.push.ensures.items ∙ c.first_with-first.ensures;
      running_holds = ap runner_place pushed ∙ runner-push js _ refl ∙ day.running_holds;
    }
