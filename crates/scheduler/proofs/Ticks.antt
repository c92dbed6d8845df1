-- What a tick tells of the chosen job, and where it leaves that job.
use Rattle.std.proofs.Common.{◌≡◌, ℕ, ◌+◌, ◌-◌, ◌*◌, ◌<◌, ◌≤◌, Bool, true, false, cond, eqb, leb, ◌≢◌, is_some, Some, None, Option, sym, refl, ap, ◌∙◌, subst, arith}
use Rattle.std.proofs.lemmas.Bool.{cond-false, lt-leb, eqb-false}
use Rattle.rates.specs.Table.{rate_of}
use Rattle.rates.specs.Policy.{Sufficient}
use Rattle.renderers.specs.declared.answer.Answer.{Answer}
use Rattle.renderers.specs.declared.answer.Answer.TheVariants as answer
use Rattle.scheduler.specs.declared.job.Job.{Job}
use Rattle.scheduler.specs.declared.job.Stage.{Stage}
use Rattle.scheduler.specs.declared.job.Stage.TheVariants.{Waiting, Running, Aside}
use Rattle.calls.specs.declared.ticked.Ran.{Ran}
use Rattle.calls.specs.declared.ticked.Switch.{Switch}
use Rattle.calls.specs.declared.ticked.Ending.{Ending}
use Rattle.calls.specs.declared.ticked.Ending.TheVariants as ending
use Rattle.runs.specs.SlowRun as slow
use Rattle.scheduler.specs.Day.{DayState, paced, runs, runner, bound_of, turn_of, switch_to, level_in, ending_of, told, left_of, handed, Paced}
use Rattle.scheduler.specs.Law.{bound_in, or_else}
use Rattle.scheduler.proofs.Speed.{goes_on_in_time}
use Rattle.scheduler.proofs.Follows.{Speed, Fit, told_bound}
use Rattle.scheduler.proofs.FollowsTick.{Replaces}

-- The tick ran the chosen job m at a level that is enough up to its bound, and told so; the bound last told of it is that one.
pub record RanSo (d : DayState) (m : Job) (r : Ran) : Type 0 where
  pub job : r.job ≡ m.number
  pub rate : r.rate ≡ rate_of d.rates (level_in m r.switch).0
  pub ending : r.ending ≡ ending_of r.answer (m.remaining - r.rate)
  pub pace : Sufficient d.rates m.remaining (bound_of d m - d.clock) (level_in m r.switch).0
  pub bound : (old : Option ℕ) → old ≡ told_bound (paced m.stage) → or_else (bound_in r.switch) old ≡ Some (bound_of d m)

-- What a tick that switched to m, or went on with it, says of level and bound.
abbrev LevelAndBound : DayState → Job → Option Switch → Type 0
LevelAndBound d m switch =
    Sufficient d.rates m.remaining (bound_of d m - d.clock) (level_in m switch).0
    × ((old : Option ℕ) → old ≡ told_bound (paced m.stage) → or_else (bound_in switch) old ≡ Some (bound_of d m))

switched :
    (d : DayState) (m : Job) (switch : Option Switch)
    → runs m ≡ false
    → switch ≡ switch_to d m (level_in m switch)
    → Paced d m switch
    → LevelAndBound d m switch
switched d m switch rests e p =
    (subst (Paced d m) is p, λ old told. subst (λ o. or_else (bound_in o) old ≡ Some (bound_of d m)) (sym is) refl)
  where
    new : Switch
    new =
        record {
          aside = runner d.pending;
          turn = turn_of m.stage;
          level = level_in m switch;
          bound = bound_of d m;
        }

    is : switch ≡ Some new
    is = e ∙ cond-false (runs m) None (Some new) rests

level_and_bound :
    (d : DayState) (number deadline budget remaining : ℕ) (stage : Stage) (switch : Option Switch)
    → Speed d.rates d.clock remaining stage
    → switch
    ≡ switch_to d (record { number = number; deadline = deadline; budget = budget; remaining = remaining; stage = stage }) (level_in (record { number = number; deadline = deadline; budget = budget; remaining = remaining; stage = stage }) switch)
    → Paced d (record { number = number; deadline = deadline; budget = budget; remaining = remaining; stage = stage }) switch
    → LevelAndBound d (record { number = number; deadline = deadline; budget = budget; remaining = remaining; stage = stage }) switch
level_and_bound d number deadline budget remaining Waiting switch h e p =
    switched d (record { number = number; deadline = deadline; budget = budget; remaining = remaining; stage = Waiting }) switch refl e p
level_and_bound d number deadline budget remaining (Aside bound noted) switch h e p =
    switched d (record { number = number; deadline = deadline; budget = budget; remaining = remaining; stage = Aside bound noted }) switch refl e p
level_and_bound d number deadline budget remaining (Running bound level) switch h e p =
    subst
    (LevelAndBound d (record { number = number; deadline = deadline; budget = budget; remaining = remaining; stage = Running bound level }))
    (sym e)
    (record { from_one = h.0; in_table = h.1; enough = h.2 }, λ old told. told)

pub ran_so :
    (d : DayState) (m : Job) (r : Ran)
    → Speed d.rates d.clock m.remaining m.stage
    → r ≡ told d m (level_in m r.switch) r.answer
    → Paced d m r.switch
    → RanSo d m r
ran_so d m r h e p =
    record {
      job = ap (λ r. r.job) e;
      rate = rate;
      ending = ap (λ r. r.ending) e ∙ ap (λ rate. ending_of r.answer (m.remaining - rate)) (sym rate);
      pace = both.0;
      bound = both.1;
    }
  where
    rate : r.rate ≡ rate_of d.rates (level_in m r.switch).0
    rate = ap (λ r. r.rate) e

    both : LevelAndBound d m r.switch
    both = level_and_bound d m.number m.deadline m.budget m.remaining m.stage r.switch h (ap (λ r. r.switch) e) p

-- Where the tick leaves the job: over at the new clock if an ending was told, else running.
abbrev pub stage_after : ℕ → ℕ → Option Ending → slow.Stage
stage_after clock bound None = slow.running bound
stage_after clock bound (Some e) = slow.over (clock + 1) bound

pub handed-agrees :
    (clock bound new old : ℕ) (ending : Option Ending)
    → slow.handed_on (stage_after clock bound ending) new old ≡ handed ending new old
handed-agrees clock bound new old None = refl
handed-agrees clock bound new old (Some e) = refl

-- Without an ending something remains.
something_remains : (given : Answer) (remaining : ℕ) → ending_of given remaining ≡ None → 1 ≤ remaining
something_remains answer.Running remaining e = go (eqb remaining 0) refl e
  where
    go : (b : Bool) → eqb remaining 0 ≡ b → cond b (Some ending.Cut) None ≡ None → 1 ≤ remaining
    go true is e = let z : ◌≡◌ {A = ℕ} 0 1 = cc in absurd (omega arith)
    go false is e = let apart : remaining ≢ 0 = eqb-false remaining 0 is in omega arith
something_remains answer.Finished remaining e = let z : ◌≡◌ {A = ℕ} 0 1 = cc in absurd (omega arith)
something_remains (answer.Failed code) remaining e = let z : ◌≡◌ {A = ℕ} 0 1 = cc in absurd (omega arith)

-- The slowed run leaves the row so, and what is pending of the job follows it.
pub record Settles (d : DayState) (m : Job) (r : Ran) : Type 0 where
  pub row :
      slow.settled (is_some r.ending) (d.clock + 1) (bound_of d m) ≡ stage_after d.clock (bound_of d m) r.ending
  pub job :
      Replaces
      d.rates
      (d.clock + 1)
      m
      (stage_after d.clock (bound_of d m) r.ending)
      (left_of m (bound_of d m) (level_in m r.switch) r.rate r.ending)

pub settles : (d : DayState) (m : Job) (r : Ran) → Fit d.rates d.clock m → RanSo d m r → Settles d m r
settles d m r k s = let both = go r.ending s.ending in record { row = both.0; job = both.1 }
  where
    t : ℕ
    t = d.clock

    b : ℕ
    b = bound_of d m

    go :
        (ending : Option Ending)
        → ending ≡ ending_of r.answer (m.remaining - r.rate)
        → (slow.settled (is_some ending) (t + 1) b ≡ stage_after t b ending)
        × Replaces d.rates (t + 1) m (stage_after t b ending) (left_of m b (level_in m r.switch) r.rate ending)
    go (Some e) is = (refl, refl)
    go None is =
        let left : 1 ≤ m.remaining - r.rate = something_remains r.answer (m.remaining - r.rate) (sym is) in
        let pace : m.remaining ≤ r.rate * (b - t) = rw s.rate s.pace.enough in
        let time : (t + 1 < b) × (m.remaining - r.rate ≤ r.rate * (b - (t + 1))) =
        goes_on_in_time m.remaining r.rate b t pace left in (
          cond-false (leb b (t + 1)) (slow.over (t + 1) b) (slow.running b) (lt-leb b (t + 1) time.0),
          record {
            number = refl;
            deadline = refl;
            budget = refl;
            stage = refl;
            fit =
                record {
                  some_budget = k.some_budget;
                  small_budget = k.small_budget;
                  small_deadline = k.small_deadline;
                  some_remains = left;
                  little_remains = omega (arith, k.little_remains);
                  speed = (
                    s.pace.from_one,
                    s.pace.in_table,
                    subst (λ rate. m.remaining - r.rate ≤ rate * (b - (t + 1))) s.rate time.1,
                  );
                };
          },
        )
