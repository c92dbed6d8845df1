-- What a tick makes of the pending jobs and of the rows that they follow: a switch sets the running job aside, and the
-- chosen job goes on or is over.
use Rattle.std.proofs.Common.{◌≡◌, ℕ, suc, ◌+◌, ◌-◌, ◌≤◌, Bool, true, false, cond, List, [], ◌∷◌, ◌++◌, map, Option, sym, refl, ap, ◌∙◌, subst, inl, inr, arith}
use Rattle.std.proofs.lemmas.Bool.{eq-eqb, ne_eqb, true≢false}
use Rattle.rates.specs.Lawful.{Lawful}
use Rattle.scheduler.specs.declared.job.Job.{Job}
use Rattle.scheduler.specs.declared.job.Stage.{Stage}
use Rattle.scheduler.specs.declared.job.Stage.TheVariants.{Waiting, Running, Aside}
use Rattle.runs.specs.SlowRun as slow
use Rattle.runs.specs.SlowRun.{SlowRow}
use Rattle.runs.specs.NeverBehind.{how_many}
use Rattle.scheduler.specs.Day.{paced, runs, amend, set_aside}
use Rattle.scheduler.proofs.Speed.{top_suffices}
use Rattle.scheduler.proofs.Follows.{Speed, Fit, Tied, Follows, finis, gone, here, First, row_pending, row_runs, chosen-counted, chosen-placed}

-- A job, and a row, once a switch sets it aside if it runs.
abbrev pub aside_job : ℕ → Job → Job
aside_job clock j =
    record {
      number = j.number;
      deadline = j.deadline;
      budget = j.budget;
      remaining = j.remaining;
      stage = set_aside clock j.stage;
    }

abbrev pub aside_row : ℕ → SlowRow → SlowRow
aside_row clock r = record { job = r.job; stage = slow.set_aside clock r.stage }

-- A switch to m leaves it the chosen one.
aside_same : (clock number deadline budget remaining : ℕ) (stage : Stage) → slow.runs (paced stage) ≡ false →
    aside_job clock (record { number = number; deadline = deadline; budget = budget; remaining = remaining; stage = stage })
    ≡ record { number = number; deadline = deadline; budget = budget; remaining = remaining; stage = stage }
aside_same clock number deadline budget remaining Waiting h = refl
aside_same clock number deadline budget remaining (Running bound level) h = absurd (true≢false h)
aside_same clock number deadline budget remaining (Aside bound noted) h = refl

pub first-aside : (clock : ℕ) (m : Job) (js : List Job) → runs m ≡ false → First m js → First m (map (aside_job clock) js)
first-aside clock m [] h c = absurd c
first-aside clock m (j ∷ js) h (inl e) =
    inl (ap (aside_job clock) e ∙ aside_same clock m.number m.deadline m.budget m.remaining m.stage h)
first-aside clock m (j ∷ js) h (inr c) = inr (c.0, first-aside clock m js h c.1)

-- Set aside, the job can still be done in time at the top rate.
aside-paced : (clock : ℕ) (stage : Stage) → paced (set_aside clock stage) ≡ slow.set_aside clock (paced stage)
aside-paced clock Waiting = refl
aside-paced clock (Running bound level) = refl
aside-paced clock (Aside bound noted) = refl

aside-speed :
    (rates : List ℕ) (clock remaining : ℕ) (stage : Stage)
    → Lawful rates
    → Speed rates clock remaining stage
    → Speed rates clock remaining (set_aside clock stage)
aside-speed rates clock remaining Waiting lawful h = tt
aside-speed rates clock remaining (Running bound level) lawful h =
    top_suffices rates remaining (bound - clock) level.0 lawful h
aside-speed rates clock remaining (Aside bound noted) lawful h = h

aside-pending : (clock : ℕ) (stage : slow.Stage) → slow.pending (slow.set_aside clock stage) ≡ slow.pending stage
aside-pending clock slow.waiting = refl
aside-pending clock (slow.running bound) = refl
aside-pending clock (slow.aside bound noted) = refl
aside-pending clock (slow.over end bound) = refl

aside-tied :
    (ends bounds : ℕ → Option ℕ) (clock n : ℕ) (stage : slow.Stage)
    → Tied ends bounds n stage
    → Tied ends bounds n (slow.set_aside clock stage)
aside-tied ends bounds clock n slow.waiting t = t
aside-tied ends bounds clock n (slow.running bound) t = record { end = t.end; bound = t.bound }
aside-tied ends bounds clock n (slow.aside bound noted) t = t
aside-tied ends bounds clock n (slow.over end bound) t = t

pub follows_aside :
    {rates : List ℕ} {clock : ℕ} {ends bounds : ℕ → Option ℕ} {n : ℕ} {rows : List SlowRow} {js : List Job}
    → Lawful rates
    → Follows rates clock ends bounds n rows js
    → Follows rates clock ends bounds n (map (aside_row clock) rows) (map (aside_job clock) js)
follows_aside lawful finis = finis
follows_aside {clock = clock} {ends = ends} {bounds = bounds} {n = n} lawful (gone {r = r} p t f) =
    gone (aside-pending clock r.stage ∙ p) (aside-tied ends bounds clock n r.stage t) (follows_aside lawful f)
follows_aside {rates = rates} {clock = clock} {ends = ends} {bounds = bounds} {n = n} lawful (here {r = r} {j = j} s k t f) =
    here
    (record {
      number = s.number;
      deadline = s.deadline;
      budget = s.budget;
      stage = aside-paced clock j.stage ∙ ap (slow.set_aside clock) s.stage;
    })
    (record {
      some_budget = k.some_budget;
      small_budget = k.small_budget;
      small_deadline = k.small_deadline;
      some_remains = k.some_remains;
      little_remains = k.little_remains;
      speed = aside-speed rates clock j.remaining j.stage lawful k.speed;
    })
    (aside-tied ends bounds clock n r.stage t)
    (follows_aside lawful f)

-- After a switch no row runs.
aside-rests : (clock : ℕ) (stage : slow.Stage) → slow.runs (slow.set_aside clock stage) ≡ false
aside-rests clock slow.waiting = refl
aside-rests clock (slow.running bound) = refl
aside-rests clock (slow.aside bound noted) = refl
aside-rests clock (slow.over end bound) = refl

pub all_rest : (clock : ℕ) (rows : List SlowRow) → how_many slow.runs (map (aside_row clock) rows) ≡ 0
all_rest clock [] = refl
all_rest clock (r ∷ rows) = rw (aside-rests clock r.stage) (omega (arith, all_rest clock rows))

-- What stands in the place of the chosen job m after its tick: nothing once its row is over, else the job as it is now.
pub record Goes_on (rates : List ℕ) (clock : ℕ) (m : Job) (row-stage : slow.Stage) (j : Job) : Type 0 where
  pub number : j.number ≡ m.number
  pub deadline : j.deadline ≡ m.deadline
  pub budget : j.budget ≡ m.budget
  pub stage : paced j.stage ≡ row-stage
  pub fit : Fit rates clock j

abbrev pub Replaces : List ℕ → ℕ → Job → slow.Stage → List Job → Type 0
Replaces rates clock m stage [] = slow.pending stage ≡ false
Replaces rates clock m stage (j ∷ []) = Goes_on rates clock m stage j
Replaces rates clock m stage (j ∷ (k ∷ js)) = ⊥

-- A job that does not run is fit at every clock.
fit_later : (rates : List ℕ) (clock later : ℕ) (j : Job) → runs j ≡ false → Fit rates clock j → Fit rates later j
fit_later rates clock later j h k =
    record {
      some_budget = k.some_budget;
      small_budget = k.small_budget;
      small_deadline = k.small_deadline;
      some_remains = k.some_remains;
      little_remains = k.little_remains;
      speed = go j.stage h k.speed;
    }
  where
    go :
        (stage : Stage)
        → slow.runs (paced stage) ≡ false
        → Speed rates clock j.remaining stage
        → Speed rates later j.remaining stage
    go Waiting h s = tt
    go (Running bound level) h s = absurd (true≢false h)
    go (Aside bound noted) h s = s

-- Nothing new was told of job n.
abbrev pub Untold : (ends bounds ends' bounds' : ℕ → Option ℕ) → ℕ → Type 0
Untold ends bounds ends' bounds' n = (ends' n ≡ ends n) × (bounds' n ≡ bounds n)

tied_later :
    (ends bounds ends' bounds' : ℕ → Option ℕ) (n : ℕ) (stage : slow.Stage)
    → Untold ends bounds ends' bounds' n
    → Tied ends bounds n stage
    → Tied ends' bounds' n stage
tied_later ends bounds ends' bounds' n stage u t = record { end = u.0 ∙ t.end; bound = u.1 ∙ t.bound }

row_rests : (b : Bool) (c : ℕ) → cond b 1 0 + c ≤ c → b ≡ false
row_rests true c h = absurd (omega arith)
row_rests false c h = refl

-- Rows of which none runs, and of which nothing new was told, follow at every clock.
pub follows_later :
    {rates : List ℕ} {clock : ℕ} {ends bounds : ℕ → Option ℕ} {n : ℕ} {rows : List SlowRow} {js : List Job}
    (later : ℕ) (ends' bounds' : ℕ → Option ℕ)
    → how_many slow.runs rows ≡ 0
    → ((k : ℕ) → n ≤ k → Untold ends bounds ends' bounds' k)
    → Follows rates clock ends bounds n rows js
    → Follows rates later ends' bounds' n rows js
follows_later later ends' bounds' h u finis = finis
follows_later {ends = ends} {bounds = bounds} {n = n} later ends' bounds' h u (gone {r = r} p t f) =
    gone
    p
    (tied_later ends bounds ends' bounds' n r.stage (u n (omega arith)) t)
    (follows_later later ends' bounds' (omega arith) (λ k l. u k (omega arith)) f)
follows_later {rates = rates} {clock = clock} {ends = ends} {bounds = bounds} {n = n} later ends' bounds' h u (here {r = r} {rows = rows} {j = j} s k t f) =
    here
    s
    (fit_later rates clock later j (sym (row_runs n r j s) ∙ row_rests (slow.runs r.stage) (how_many slow.runs rows) (omega arith)) k)
    (tied_later ends bounds ends' bounds' n r.stage (u n (omega arith)) t)
    (follows_later later ends' bounds' (omega arith) (λ k l. u k (omega arith)) f)

-- The chosen job gets its new place in both lists.
follows_replaced :
    {rates : List ℕ} {later : ℕ} {ends bounds : ℕ → Option ℕ} {n : ℕ} {rows : List SlowRow} {js : List Job}
    (m : Job) (stage : slow.Stage) (r : SlowRow) (new : List Job)
    → m.number ≡ n
    → m.deadline ≡ r.job.deadline
    → m.budget ≡ r.job.budget
    → Tied ends bounds n stage
    → Replaces rates later m stage new
    → Follows rates later ends bounds (suc n) rows js
    → Follows rates later ends bounds n (record { job = r.job; stage = stage } ∷ rows) (new ++ js)
follows_replaced m stage r [] number deadline budget t p f = gone p t f
follows_replaced m stage r (j ∷ []) number deadline budget t g f =
    here
    (record {
      number = g.number ∙ number;
      deadline = g.deadline ∙ deadline;
      budget = g.budget ∙ budget;
      stage = g.stage;
    })
    g.fit
    t
    f
follows_replaced m stage r (j ∷ (k ∷ js)) number deadline budget t p f = absurd p

module _ {rates : List ℕ} {clock : ℕ} {ends bounds : ℕ → Option ℕ} (later : ℕ) (ends' bounds' : ℕ → Option ℕ) (m : Job) (stage : slow.Stage) where
  pub follows-amend :
      {n : ℕ} {rows : List SlowRow} {js : List Job} (new : List Job)
      → how_many slow.runs rows ≤ cond (runs m) 1 0
      → ((k : ℕ) → (k ≡ m.number → ⊥) → Untold ends bounds ends' bounds' k)
      → Tied ends' bounds' m.number stage
      → Replaces rates later m stage new
      → Follows rates clock ends bounds n rows js
      → First m js
      → Follows rates later ends' bounds' n (slow.put m.deadline stage rows) (amend m.deadline new js)
  follows-amend new h u t new-fits finis c = absurd c
  follows-amend {n = n} new h u t new-fits (gone {r = r} p t₀ f) c =
      rw p
      (gone
      p
      (tied_later ends bounds ends' bounds' n r.stage (u n (λ e. omega (arith, chosen-placed m f c))) t₀)
      (follows-amend new (omega arith) u t new-fits f c))
  follows-amend {n = n} new h u t new-fits (here {r = r} {rows = rows} {j = j} s k t₀ f) (inl e) =
      let number : m.number ≡ n = sym (ap (λ j. j.number) e) ∙ s.number in
      let deadline : m.deadline ≡ r.job.deadline = sym (ap (λ j. j.deadline) e) ∙ s.deadline in
      let budget : m.budget ≡ r.job.budget = sym (ap (λ j. j.budget) e) ∙ s.budget in
      rw
      (row_pending n r j s, eq-eqb r.job.deadline m.deadline (sym deadline), eq-eqb j.deadline m.deadline (ap (λ j. j.deadline) e))
      (follows_replaced
      m
      stage
      r
      new
      number
      deadline
      budget
      (subst (λ k. Tied ends' bounds' k stage) number t)
      new-fits
      (follows_later
      later
      ends'
      bounds'
      (omega (arith, ap (λ b. cond {A = ℕ} b 1 0) (row_runs n r j s ∙ ap runs e)))
      (λ k l. u k (λ e. omega arith))
      f))
  follows-amend {n = n} new h u t new-fits (here {r = r} {rows = rows} {j = j} s k t₀ f) (inr c) =
      let apart : r.job.deadline ≡ m.deadline → ⊥ = λ e. c.0 (s.deadline ∙ e) in
      rw
      (row_pending n r j s, ne_eqb r.job.deadline m.deadline apart, ne_eqb j.deadline m.deadline c.0)
      (here
      s
      (fit_later
      rates
      clock
      later
      j
      (sym (row_runs n r j s) ∙ row_rests (slow.runs r.stage) (how_many slow.runs rows) (omega (arith, chosen-counted m f c.1)))
      k)
      (tied_later ends bounds ends' bounds' n r.stage (u n (λ e. omega (arith, chosen-placed m f c.1))) t₀)
      (follows-amend new (omega arith) u t new-fits f c.1))
