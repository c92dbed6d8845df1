-- The pending jobs of a day beside the rows of the slowed run of the same calls: they are the rows that are not over, in
-- their order, and what was told of each row is where it stands.
use Rattle.std.proofs.Common.{◌≡◌, ℕ, suc, ◌+◌, ◌-◌, ◌*◌, ◌<◌, ◌≤◌, Bool, true, false, cond, ◌||◌, leb, ◌⊎◌, List, [], ◌∷◌, ◌++◌, length, is_some, Some, None, Option, sym, refl, ap, ◌∙◌, subst, ap₂, inl, inr, add-zero, arith}
use Rattle.std.specs.List.{AllByRecursion}
use Rattle.std.proofs.lemmas.Bool.{cond_both, leb-false}
use Rattle.rates.specs.Table.{rate_of, top_rate}
use Rattle.scheduler.specs.declared.job.Job.{Job}
use Rattle.scheduler.specs.declared.job.Stage.{Stage}
use Rattle.scheduler.specs.declared.job.Stage.TheVariants.{Waiting, Running, Aside}
use Rattle.runs.specs.SlowRun as slow
use Rattle.runs.specs.SlowRun.{SlowRow}
use Rattle.runs.specs.NeverBehind.{how_many}
use Rattle.scheduler.specs.Day.{paced, runs, runner, earlier, first_job}
use Rattle.scheduler.specs.Good.{Numbered, running}

-- What the answers have told of a job at a stage: its end once it is over, and its bound once it has run.
abbrev pub told_end : slow.Stage → Option ℕ
told_end slow.waiting = None
told_end (slow.running bound) = None
told_end (slow.aside bound noted) = None
told_end (slow.over end bound) = Some end

abbrev pub told_bound : slow.Stage → Option ℕ
told_bound slow.waiting = None
told_bound (slow.running bound) = Some bound
told_bound (slow.aside bound noted) = Some bound
told_bound (slow.over end bound) = Some bound

-- What remains of a job can be done in time: at its own level while it runs, at the top rate from the clock noted on while
-- it is set aside.
abbrev pub Speed : List ℕ → ℕ → ℕ → Stage → Type 0
Speed rates clock remaining Waiting = Unit {0}
Speed rates clock remaining (Running bound level) =
    (1 ≤ level.0) × (level.0 ≤ length rates) × (remaining ≤ rate_of rates level.0 * (bound - clock))
Speed rates clock remaining (Aside bound noted) = remaining ≤ top_rate rates * (bound - noted)

pub record Fit (rates : List ℕ) (clock : ℕ) (j : Job) : Type 0 where
  pub some_budget : 1 ≤ j.budget
  pub small_budget : j.budget ≤ 65535
  pub small_deadline : j.deadline ≤ 134217727
  pub some_remains : 1 ≤ j.remaining
  pub little_remains : j.remaining ≤ j.budget * top_rate rates
  pub speed : Speed rates clock j.remaining j.stage

-- The pending job is this row, at place n from 1.
pub record Same (n : ℕ) (r : SlowRow) (j : Job) : Type 0 where
  pub number : j.number ≡ n
  pub deadline : j.deadline ≡ r.job.deadline
  pub budget : j.budget ≡ r.job.budget
  pub stage : paced j.stage ≡ r.stage

-- What was told of job n is what its stage says.
pub record Tied (ends bounds : ℕ → Option ℕ) (n : ℕ) (stage : slow.Stage) : Type 0 where
  pub end : ends n ≡ told_end stage
  pub bound : bounds n ≡ told_bound stage

-- The same of all rows, the first at place n.
abbrev pub AllTied : (ends bounds : ℕ → Option ℕ) → ℕ → List SlowRow → Type 0
AllTied ends bounds n [] = Unit {0}
AllTied ends bounds n (r ∷ rows) = Tied ends bounds n r.stage × AllTied ends bounds (suc n) rows

pub data Follows (rates : List ℕ) (clock : ℕ) (ends bounds : ℕ → Option ℕ) : ℕ → List SlowRow → List Job → Type 0 where
  finis : {n : ℕ} → Follows rates clock ends bounds n [] []
  gone :
      {n : ℕ} {r : SlowRow} {rows : List SlowRow} {js : List Job}
      → slow.pending r.stage ≡ false
      → Tied ends bounds n r.stage
      → Follows rates clock ends bounds (suc n) rows js
      → Follows rates clock ends bounds n (r ∷ rows) js
  here :
      {n : ℕ} {r : SlowRow} {rows : List SlowRow} {j : Job} {js : List Job}
      → Same n r j
      → Fit rates clock j
      → Tied ends bounds n r.stage
      → Follows rates clock ends bounds (suc n) rows js
      → Follows rates clock ends bounds n (r ∷ rows) (j ∷ js)

pending-paced : (stage : Stage) → slow.pending (paced stage) ≡ true
pending-paced Waiting = refl
pending-paced (Running bound level) = refl
pending-paced (Aside bound noted) = refl

pub row_pending : (n : ℕ) (r : SlowRow) (j : Job) → Same n r j → slow.pending r.stage ≡ true
row_pending n r j s = rw (← s.stage) (pending-paced j.stage)

pub row_runs : (n : ℕ) (r : SlowRow) (j : Job) → Same n r j → slow.runs r.stage ≡ runs j
row_runs n r j s = ap slow.runs (sym s.stage)

pub gone_rests : (stage : slow.Stage) → slow.pending stage ≡ false → slow.runs stage ≡ false
gone_rests slow.waiting p = refl
gone_rests (slow.running bound) p = p
gone_rests (slow.aside bound noted) p = refl
gone_rests (slow.over end bound) p = refl

-- m is chosen: it stands in the list, and none before it is due when it is.
abbrev pub First : Job → List Job → Type 0
First m [] = ⊥
First m (j ∷ js) = (j ≡ m) ⊎ (((j.deadline ≡ m.deadline) → ⊥) × First m js)

abbrev pub IsFirst : List Job → Option Job → Type 0
IsFirst js None = js ≡ []
IsFirst js (Some m) = First m js

pub is-first : (js : List Job) → IsFirst js (first_job js)
is-first [] = refl
is-first (j ∷ js) = go (first_job js) (is-first js)
  where
    go : (o : Option Job) → IsFirst js o → First (earlier j o) (j ∷ js)
    go None h = inl refl
    go (Some q) h =
        cond_both
        (leb j.deadline q.deadline)
        j
        q
        (λ m. First m (j ∷ js))
        (λ _. inl refl)
        (λ e. inr ((λ same. omega (arith, leb-false j.deadline q.deadline e)), h))

-- Both choose the same job.
abbrev pub BothChoose : Option SlowRow → Option Job → Type 0
BothChoose None None = Unit {0}
BothChoose None (Some j) = ⊥
BothChoose (Some r) None = ⊥
BothChoose (Some r) (Some j) = (n : ℕ) × Same n r j

module _ {rates : List ℕ} {clock : ℕ} {ends bounds : ℕ → Option ℕ} where
  pub first-agrees :
      {n : ℕ} {rows : List SlowRow} {js : List Job}
      → Follows rates clock ends bounds n rows js
      → BothChoose (slow.first slow.pending rows) (first_job js)
  first-agrees finis = tt
  first-agrees (gone {rows = rows} {js = js} p t f) = rw p (first-agrees f)
  first-agrees (here {n = n} {r = r} {rows = rows} {j = j} {js = js} s k t f) =
      rw (row_pending n r j s) (go (slow.first slow.pending rows) (first_job js) (first-agrees f))
    where
      go : (o : Option SlowRow) (q : Option Job) → BothChoose o q → BothChoose (Some (slow.earlier r o)) (Some (earlier j q))
      go None None h = (n, s)
      go None (Some q) h = absurd h
      go (Some o) None h = absurd h
      go (Some o) (Some q) h =
          subst
          (λ b. BothChoose (Some (cond b r o)) (Some (earlier j (Some q))))
          (ap₂ leb s.deadline h.1.deadline)
          (either (leb j.deadline q.deadline))
        where
          either : (b : Bool) → BothChoose (Some (cond b r o)) (Some (cond b j q))
          either true = (n, s)
          either false = h

  pub somebody-agrees :
      {n : ℕ} {rows : List SlowRow} {js : List Job}
      → Follows rates clock ends bounds n rows js
      → slow.somebody_runs rows ≡ is_some (runner js)
  somebody-agrees finis = refl
  somebody-agrees (gone {r = r} p t f) = rw (gone_rests r.stage p) (somebody-agrees f)
  somebody-agrees (here {n = n} {r = r} {rows = rows} {j = j} {js = js} s k t f) =
      rw (row_runs n r j s) (go (runs j) (somebody-agrees f))
    where
      go : (b : Bool) → slow.somebody_runs rows ≡ is_some (runner js) → (b || slow.somebody_runs rows) ≡ is_some (cond b (Some j.number) (runner js))
      go true h = refl
      go false h = h

  pub running-agrees :
      {n : ℕ} {rows : List SlowRow} {js : List Job}
      → Follows rates clock ends bounds n rows js
      → running js ≡ how_many slow.runs rows
  running-agrees finis = refl
  running-agrees (gone {r = r} p t f) = rw (gone_rests r.stage p) (omega (arith, running-agrees f))
  running-agrees (here {n = n} {r = r} {rows = rows} {j = j} {js = js} s k t f) =
      rw (row_runs n r j s) (ap (λ c. cond (runs j) 1 0 + c) (running-agrees f))

  -- Where m runs, one of the rows does.
  pub chosen-counted :
      {n : ℕ} {rows : List SlowRow} {js : List Job} (m : Job)
      → Follows rates clock ends bounds n rows js
      → First m js
      → cond (runs m) 1 0 ≤ how_many slow.runs rows
  chosen-counted m finis c = absurd c
  chosen-counted m (gone {r = r} p t f) c = rw (gone_rests r.stage p) (omega (arith, chosen-counted m f c))
  chosen-counted m (here {n = n} {r = r} {j = j} s k t f) (inl e) =
      rw (row_runs n r j s, ap runs e) (omega arith)
  chosen-counted m (here s k t f) (inr c) = omega (arith, chosen-counted m f c.1)

  -- The number of the chosen job is a place of the rows.
  pub chosen-placed :
      {n : ℕ} {rows : List SlowRow} {js : List Job} (m : Job)
      → Follows rates clock ends bounds n rows js
      → First m js
      → (n ≤ m.number) × (m.number < n + length rows)
  chosen-placed m finis c = absurd c
  chosen-placed m (gone p t f) c = omega (arith, chosen-placed m f c)
  chosen-placed m (here {n = n} {r = r} {j = j} s k t f) (inl e) =
      let same : m.number ≡ n = sym (ap (λ j. j.number) e) ∙ s.number in omega arith
  chosen-placed m (here s k t f) (inr c) = omega (arith, chosen-placed m f c.1)

  -- The chosen job is fit, and what was told of it is where it stands.
  pub chosen-fit :
      {n : ℕ} {rows : List SlowRow} {js : List Job} (m : Job)
      → Follows rates clock ends bounds n rows js
      → First m js
      → Fit rates clock m × Tied ends bounds m.number (paced m.stage)
  chosen-fit m finis c = absurd c
  chosen-fit m (gone p t f) c = chosen-fit m f c
  chosen-fit m (here {n = n} {r = r} {j = j} s k t f) (inl e) =
      subst
      (λ m. Fit rates clock m × Tied ends bounds m.number (paced m.stage))
      e
      (k, rw (s.number, s.stage) t)
  chosen-fit m (here s k t f) (inr c) = chosen-fit m f c.1

  -- One more job, at the next place.
  pub follows-push :
      {n : ℕ} {rows : List SlowRow} {js : List Job} (r : SlowRow) (j : Job)
      → Follows rates clock ends bounds n rows js
      → Same (n + length rows) r j
      → Fit rates clock j
      → Tied ends bounds (n + length rows) r.stage
      → Follows rates clock ends bounds n (rows ++ r ∷ []) (js ++ j ∷ [])
  follows-push {n = n} r j finis s k t = here (rw add-zero at s) k (rw add-zero at t) finis
  follows-push {n = n} r j (gone {rows = rows} p t₀ f) s k t =
      gone p t₀ (follows-push r j f (rw next at s) k (rw next at t))
    where
      next : n + suc (length rows) ≡ suc n + length rows
      next = omega arith
  follows-push {n = n} r j (here {rows = rows} s₀ k₀ t₀ f) s k t =
      here s₀ k₀ t₀ (follows-push r j f (rw next at s) k (rw next at t))
    where
      next : n + suc (length rows) ≡ suc n + length rows
      next = omega arith

  -- The jobs are numbered by their places.
  pub follows-numbered :
      {n : ℕ} {rows : List SlowRow} {js : List Job} (low high : ℕ)
      → Follows rates clock ends bounds n rows js
      → low < n
      → n + length rows ≤ suc high
      → Numbered low high js
  follows-numbered low high finis l h = tt
  follows-numbered low high (gone p t f) l h = follows-numbered low high f (omega arith) (omega arith)
  follows-numbered {n = n} low high (here {j = j} {js = js} s k t f) l h =
      (omega (arith, s.number), omega (arith, s.number), rw s.number (follows-numbered n high f (omega arith) (omega arith)))

  -- What holds of every row holds of the pending jobs.
  pub follows-all :
      {n : ℕ} {rows : List SlowRow} {js : List Job} (P : SlowRow → Type 0) (Q : Job → Type 0)
      → ((n : ℕ) (r : SlowRow) (j : Job) → Same n r j → Fit rates clock j → P r → Q j)
      → Follows rates clock ends bounds n rows js
      → AllByRecursion P rows
      → AllByRecursion Q js
  follows-all P Q step finis h = tt
  follows-all P Q step (gone p t f) h = follows-all P Q step f h.1
  follows-all P Q step (here {n = n} {r = r} {j = j} s k t f) h =
      (step n r j s k h.0, follows-all P Q step f h.1)

  -- What was told of every row is where it stands.
  pub follows-tied :
      {n : ℕ} {rows : List SlowRow} {js : List Job} → Follows rates clock ends bounds n rows js → AllTied ends bounds n rows
  follows-tied finis = tt
  follows-tied (gone p t f) = (t, follows-tied f)
  follows-tied (here s k t f) = (t, follows-tied f)
