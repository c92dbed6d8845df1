-- A tick of both runs keeps the invariant.
use Rattle.std.proofs.Common.{◌≡◌, ℕ, zero, suc, ◌+◌, ◌<◌, ◌≤◌, Bool, true, false, not, ◌⊎◌, List, [], ◌∷◌, Some, None, Option, subst, inl, arith}
use Rattle.std.proofs.lemmas.Bool.Decides.{nat_tests}
use Rattle.cues.specs.Demand.{Job}
use Rattle.runs.specs.SlowRun.{Stage, over, SlowRow, runs, pending, settled}
use Rattle.runs.specs.NeverBehind.{NotBehind}
use Rattle.runs.proofs.SortedRun.{Both, row, ended, serve_first, front, others, bound_at, stage_at, rows_at, runs_at, bound_on, deadline_on, Ahead, Sorted}
use Rattle.runs.proofs.Stack.{Stack, Before, Handed}
use Rattle.runs.proofs.ChosenFits.{Fits, chosen_fits, not-behind_on}

handed-all : (H D Q : ℕ) (rs : List Both) → H ≤ Q → Handed H D Q rs
handed-all H D Q [] a = a
handed-all H D Q (row j l e st ∷ rs) a = (inl a, handed-all H D (Q + l) rs (omega arith))

before_due : (st : Stage) (d D : ℕ) → Before st d D → d ≤ D
before_due st d D b = grind (arith, nat_tests)

-- The chosen job, if there is one, is due at d or later.
abbrev DueFrom : ℕ → Option SlowRow → Type 0
DueFrom d None = Unit {0}
DueFrom d (Some m) = d ≤ m.job.deadline

front-due : (d : ℕ) (rs : List Both) → Ahead d rs → DueFrom d (front rs)
front-due d [] a = tt
front-due d (row j l e st ∷ rs) a = grind (arith, nat_tests, front-due d rs a.1)

-- What a tick leaves of the invariant, for the job m that it chose.
abbrev pub Kept : Bool → Bool → ℕ → ℕ → ℕ → ℕ → Option SlowRow → List Both → Type 0
Kept early f t H D Q m rs =
    Stack (t + 1) (runs_at early f t H D m) (bound_on early f t H D m) 0 Q rs
    × Handed (bound_on early f t H D m) (deadline_on early f t H D m) Q rs

-- One tick at clock t, with the handed bound H and deadline D.
module _ (early : Bool) (t H D : ℕ) where
  -- If the reference run ends the chosen job in this tick, its bound has come, so it is over here too.
  settled-not_behind :
      (b : ℕ) (st : Stage) (l : ℕ) (e : Option ℕ)
      → pending st ≡ true
      → t < b
      → b ≤ t + suc l
      → NotBehind st e
      → NotBehind (settled early (t + 1) b) (ended (t + 1) l e)
  settled-not_behind b st l e p a c n = grind (arith, nat_tests, not-behind_on st (settled early (t + 1) b) e p n)

  over-not_behind :
      (s b l : ℕ) (e : Option ℕ)
      → s ≤ b
      → b ≤ t + suc l
      → NotBehind (over s b) e
      → NotBehind (over s b) (ended (t + 1) l e)
  over-not_behind s b l e a c n = grind (arith, nat_tests)

  rows_at_over :
      (f : Bool) (m : Option SlowRow) (j : Job) (l : ℕ) (e : Option ℕ) (s b : ℕ) (rs : List Both)
      → rows_at early f t H D m (row j l e (over s b) ∷ rs) ≡ (row j l e (over s b) ∷ rows_at early f t H D m rs)
  rows_at_over f m j l e s b rs = grind (arith, nat_tests)

  handed-yields : (switch : Bool) (Q : ℕ) (rs : List Both) → Handed H D Q rs → Handed H D Q (others switch t rs)
  handed-yields x Q [] h = h
  handed-yields x Q (row j l e st ∷ rs) h = grind (arith, nat_tests, handed-yields x (Q + l) rs h.1)

  -- A place above the chosen job.
  handed-above :
      (f : Bool) (m : Option SlowRow) (d Q Q' : ℕ)
      → Q ≤ Q'
      → DueFrom d m
      → (H ≤ Q) ⊎ (d ≤ D)
      → (bound_on early f t H D m ≤ Q') ⊎ (d ≤ deadline_on early f t H D m)
  handed-above f m d Q Q' q a h = grind (arith, nat_tests)

  kept_idle : (f : Bool) (Q Q' : ℕ) → Q ≤ Q' → Stack t f H 0 Q [] → Handed H D Q [] → Kept early f t H D Q' None []
  kept_idle f Q Q' q s h = grind (arith, nat_tests)

  -- The chosen job, over or running after its tick, with the ticks l' left and the end e' that the reference run leaves it.
  kept_chosen :
      (f : Bool) (Q Q' : ℕ) (j : Job) (l l' : ℕ) (e e' : Option ℕ) (st : Stage) (rs : List Both)
      → pending st ≡ true
      → t ≤ Q
      → Q ≤ Q'
      → Q + l ≡ Q' + l'
      → l' ≤ j.budget
      → ((b : ℕ) → t + 1 < b → b ≤ Q' + l' → 1 ≤ l')
      → ((b : ℕ) → t < b → b ≤ Q' + l' → NotBehind (settled early (t + 1) b) e')
      → Stack t f H 0 Q (row j l e st ∷ rs)
      → Handed H D Q (row j l e st ∷ rs)
      → Kept
      early f t H D Q' (Some (record { job = j; stage = st }))
      (row j l' e' (stage_at early f t H D (record { job = j; stage = st })) ∷ others (not (runs st)) t rs)
  kept_chosen f Q Q' j l l' e e' st rs p a q r m left n s h =
      grind (
        arith,
        nat_tests,
        fits,
        in_time,
        stands,
        left bound,
        n bound,
        handed-all bound j.deadline (Q' + l') below in_time,
        before_due st j.deadline D,
        handed-yields (not (runs st)) (Q' + l') rs (subst (λ q. Handed H D q rs) r h.1),
      )
    where
      bound : ℕ
      bound = bound_at f t H D (record { job = j; stage = st })

      below : List Both
      below = others (not (runs st)) t rs

      fits : Fits t j.budget st bound (Q + l) rs
      fits = chosen_fits f t H D Q j l e st rs p a s h

      in_time : bound ≤ Q' + l'
      in_time = omega (arith, fits.1)

      stands : Stack (t + 1) false bound 0 (Q' + l') below
      stands = subst (λ q. Stack (t + 1) false bound 0 q below) r fits.3

  -- The chosen job, where the reference run has spent its tick above it; and where it spends it here.
  kept_beside :
      (f : Bool) (Q Q' : ℕ) (j : Job) (l : ℕ) (e : Option ℕ) (st : Stage) (rs : List Both)
      → pending st ≡ true
      → t ≤ Q
      → Q ≡ Q'
      → (1 ≤ l) × (l ≤ j.budget)
      → NotBehind st e
      → Stack t f H 0 Q (row j l e st ∷ rs)
      → Handed H D Q (row j l e st ∷ rs)
      → Kept
      early f t H D Q' (Some (record { job = j; stage = st }))
      (row j l e (stage_at early f t H D (record { job = j; stage = st })) ∷ others (not (runs st)) t rs)
  kept_beside f Q Q' j l e st rs p a q m n =
      kept_chosen f Q Q' j l l e e st rs p a (omega arith) (omega arith) m.1 (λ b _ _. m.0)
      (λ b _ _. not-behind_on st (settled early (t + 1) b) e p n)

  kept_served :
      (f : Bool) (Q Q' : ℕ) (j : Job) (l : ℕ) (e : Option ℕ) (st : Stage) (rs : List Both)
      → pending st ≡ true
      → Q ≡ t
      → Q' ≡ t + 1
      → suc l ≤ j.budget
      → NotBehind st e
      → Stack t f H 0 Q (row j (suc l) e st ∷ rs)
      → Handed H D Q (row j (suc l) e st ∷ rs)
      → Kept
      early f t H D Q' (Some (record { job = j; stage = st }))
      (row j l (ended (t + 1) l e) (stage_at early f t H D (record { job = j; stage = st })) ∷ others (not (runs st)) t rs)
  kept_served f Q Q' j l e st rs p q q' m n =
      kept_chosen f Q Q' j (suc l) l e (ended (t + 1) l e) st rs p (omega arith) (omega arith) (omega arith) (omega arith)
      (λ b x y. omega arith) (λ b x y. settled-not_behind b st l e p x (omega arith) n)

  -- A job that is over above the chosen one.
  kept_over :
      (f : Bool) (Q Q' : ℕ) (j : Job) (l : ℕ) (e : Option ℕ) (s b : ℕ) (below rs : List Both)
      → Q ≤ Q'
      → (l ≤ j.budget) × (s ≤ b) × (s ≤ t + 1) × (b ≤ Q' + l)
      → NotBehind (over s b) e
      → Ahead j.deadline below
      → (H ≤ Q) ⊎ (j.deadline ≤ D)
      → Kept early f t H D (Q' + l) (front below) (rows_at early f t H D (front below) rs)
      → Kept early f t H D Q' (front below) (rows_at early f t H D (front below) (row j l e (over s b) ∷ rs))
  kept_over f Q Q' j l e s b below rs q a n d h k =
      grind (arith, nat_tests, rows_at_over f (front below) j l e s b rs, handed-above f (front below) j.deadline Q Q' q (front-due j.deadline below d) h)

  -- The tick below the place where the reference run has spent it.
  kept_later :
      (f : Bool) (Q Q' : ℕ) (rs : List Both)
      → t ≤ Q
      → Q ≡ Q'
      → Sorted rs
      → Stack t f H 0 Q rs
      → Handed H D Q rs
      → Kept early f t H D Q' (front rs) (rows_at early f t H D (front rs) rs)
  kept_later f Q Q' [] a q o s h = kept_idle f Q Q' (omega arith) s h
  kept_later f Q Q' (row j l e (over s₁ b) ∷ rs) a q o s h =
      kept_over f Q Q' j l e s₁ b rs rs (omega arith) (omega (arith, s.0)) s.1 o.0 h.0
      (kept_later f (Q + l) (Q' + l) rs (omega arith) (omega arith) o.1 s.2 h.1)
  kept_later f Q Q' (row j l e st ∷ rs) a q o s h = grind (arith, nat_tests, kept_beside f Q Q' j l e st rs)

  -- The whole tick. The reference run spends it at the first job with ticks left, which is the chosen job or above it, since
  -- pending jobs have ticks left; nothing is left above that job.
  pub kept_tick :
      (f : Bool) (Q Q' : ℕ) (rs : List Both)
      → Q ≡ t
      → Q' ≡ t + 1
      → Sorted rs
      → Stack t f H 0 Q rs
      → Handed H D Q rs
      → Kept early f t H D Q' (front rs) (rows_at early f t H D (front rs) (serve_first (t + 1) rs))
  kept_tick f Q Q' [] q q' o s h = kept_idle f Q Q' (omega arith) s h
  kept_tick f Q Q' (row j zero e (over s₁ b) ∷ rs) q q' o s h =
      kept_over f Q Q' j zero e s₁ b rs (serve_first (t + 1) rs) (omega arith) (omega (arith, s.0)) s.1 o.0 h.0
      (kept_tick f (Q + 0) (Q' + 0) rs (omega arith) (omega arith) o.1 s.2 h.1)
  kept_tick f Q Q' (row j zero e st ∷ rs) q q' o s h = absurd (grind (arith, nat_tests))
  kept_tick f Q Q' (row j (suc l) e (over s₁ b) ∷ rs) q q' o s h =
      kept_over f Q Q' j l (ended (t + 1) l e) s₁ b rs rs (omega arith) (omega (arith, s.0))
      (over-not_behind s₁ b l e s.0.1 (omega (arith, s.0)) s.1) o.0 h.0
      (kept_later f (Q + suc l) (Q' + l) rs (omega arith) (omega arith) o.1 s.2 h.1)
  kept_tick f Q Q' (row j (suc l) e st ∷ rs) q q' o s h = grind (arith, nat_tests, kept_served f Q Q' j l e st rs)
