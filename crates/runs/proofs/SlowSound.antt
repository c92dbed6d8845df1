-- What holds in every slowed run by itself, read off the invariant.
use Rattle.std.proofs.Common.{◌≡◌, ℕ, ◌+◌, ◌-◌, ◌<◌, ◌≤◌, Bool, true, false, cond, leb, List, [], ◌∷◌, map, Some, None, Option, sym, refl, ap, ◌∙◌, subst, arith}
use Rattle.std.specs.List.{AllByRecursion}
use Rattle.std.proofs.ByRecursion.{All-map}
use Rattle.std.proofs.lemmas.Bool.{cond_both}
use Rattle.std.proofs.lemmas.Bool.Decides.{nat_tests}
use Rattle.cues.specs.Demand.{Job}
use Rattle.runs.specs.SlowRun
use Rattle.runs.specs.SlowRun.{Call, Stage, waiting, running, aside, over, Slow, SlowRow, pending, runs, somebody_runs, earlier, first, bound_of}
use Rattle.runs.specs.NeverBehind.{Budgeted, budgets, how_many, started, BoundsHold, Resumable, TimeEnough, ResumedAlone, ChosenWell, Sound}
use Rattle.runs.proofs.SortedRun.{Both, row, slow_row, front, bound_at}
use Rattle.runs.proofs.Sorting.{sorted, all_sorted, summed, summed-sorted, leading, first-is-leading}
use Rattle.runs.proofs.Stack.{Stack, Handed}
use Rattle.runs.proofs.ChosenFits.{Fits, chosen_fits}
use Rattle.runs.proofs.BothRuns.{State, slow, both_fresh, both_run, slow-of_run, first-is_front}
use Rattle.runs.proofs.SlowLaw.{Invariant, invariant_always, one_if_runs, stack_runs}

abbrev budget_of : Both → ℕ
budget_of r = (slow_row r).job.budget

summed-budgets : (rs : List Both) → summed budget_of rs ≡ budgets (map slow_row rs)
summed-budgets [] = refl
summed-budgets (r ∷ rs) = ap (λ n. budget_of r + n) (summed-budgets rs)

summed-runs : (rs : List Both) → summed one_if_runs rs ≡ how_many runs (map slow_row rs)
summed-runs [] = refl
summed-runs (r ∷ rs) = ap (λ n. one_if_runs r + n) (summed-runs rs)

-- Bounds lie between the clock and the limit.
stack_bounds :
    (f : Bool) (t E W Q L : ℕ) (rs : List Both)
    → t ≤ Q
    → Q + summed budget_of rs ≤ L
    → Stack t f E W Q rs
    → AllByRecursion (λ r. BoundsHold t L (slow_row r).stage) rs
stack_bounds f t E W Q L [] q h s = tt
stack_bounds f t E W Q L (row j l e st ∷ rs) q h s =
    let below = λ (f : Bool) (E W : ℕ). stack_bounds f t E W (Q + l) L rs in
    grind (arith, nat_tests, below)

-- Where nobody runs, the first job set aside waits for the handed bound H.
stack_resumable :
    (t H E W Q : ℕ) (rs : List Both)
    → (t ≤ E → t ≤ H)
    → Stack t false E W Q rs
    → AllByRecursion (λ r. Resumable t H (slow_row r).stage) rs
stack_resumable t H E W Q [] h s = tt
stack_resumable t H E W Q (row j l e st ∷ rs) h s =
    let below = λ (E W : ℕ). stack_resumable t H E W (Q + l) rs in
    grind (arith, nat_tests, below)

-- A running job is the first that has started.
stack_top :
    (t E W Q : ℕ) (rs : List Both)
    → Stack t true E W Q rs
    → (m : SlowRow) × (leading started rs ≡ Some m) × (runs m.stage ≡ true)
stack_top t E W Q [] s = absurd s
stack_top t E W Q (row j l e waiting ∷ rs) s = stack_top t E (W + l) (Q + l) rs s.2
stack_top t E W Q (row j l e (running b) ∷ rs) s = (record { job = j; stage = running b }, refl, refl)
stack_top t E W Q (row j l e (aside b n) ∷ rs) s = absurd s
stack_top t E W Q (row j l e (over s₁ b) ∷ rs) s = stack_top t E W (Q + l) rs s.2

-- The handed bound lies within the clock and all budgets.
stack_handed :
    (f : Bool) (t E W H D Q : ℕ) (rs : List Both)
    → Stack t f E W Q rs
    → Handed H D Q rs
    → H ≤ Q + summed budget_of rs
stack_handed f t E W H D Q [] s h = omega arith
stack_handed f t E W H D Q (row j l e st ∷ rs) s h =
    let below = λ (f : Bool) (E W : ℕ). stack_handed f t E W H D (Q + l) rs in
    grind (arith, nat_tests, below)

-- The front job is chosen well.
abbrev FrontWell : Bool → ℕ → ℕ → ℕ → ℕ → Option SlowRow → Type 0
FrontWell f t H D L None = Unit {0}
FrontWell f t H D L (Some m) =
    (t < bound_at f t H D m)
    × (bound_at f t H D m ≤ L)
    × TimeEnough m.stage t m.job.budget (bound_at f t H D m)
    × ResumedAlone m.stage f

chosen_front :
    (f : Bool) (t H D Q L : ℕ) (j : Job) (l : ℕ) (e : Option ℕ) (st : Stage) (rs : List Both)
    → pending st ≡ true
    → t ≤ Q
    → Q + l ≤ L
    → Stack t f H 0 Q (row j l e st ∷ rs)
    → Handed H D Q (row j l e st ∷ rs)
    → ResumedAlone st f
    → FrontWell f t H D L (Some (record { job = j; stage = st }))
chosen_front f t H D Q L j l e st rs p q m s h r = (fits.0, omega (arith, fits.1), fits.2, r)
  where
    fits : Fits t j.budget st (bound_at f t H D (record { job = j; stage = st })) (Q + l) rs
    fits = chosen_fits f t H D Q j l e st rs p q s h

stack_front :
    (f : Bool) (t H D Q L : ℕ) (rs : List Both)
    → t ≤ Q
    → Q + summed budget_of rs ≤ L
    → Stack t f H 0 Q rs
    → Handed H D Q rs
    → FrontWell f t H D L (front rs)
stack_front f t H D Q L [] q m s h = tt
stack_front f t H D Q L (row j l e st ∷ rs) q m s h =
    grind (arith, nat_tests, chosen_front f t H D Q L j l e st rs, stack_front f t H D (Q + l) L rs)

sound_state : (s : State) → Invariant s → Sound (slow s)
sound_state s v =
    record {
      one_runs = subst (λ n. n ≤ 1) (sym running-one) (one_at_most f);
      runs_first =
          λ somebody.
          subst (λ o. (m : SlowRow) × (o ≡ Some m) × (runs m.stage ≡ true)) (sym (first-is-leading started s.rows))
          (stack_top t H 0 t (sorted s.rows) (subst (λ f. Stack t f H 0 t (sorted s.rows)) somebody v.stack));
      bounds_hold =
          All-map (λ r. BoundsHold t L r.stage) slow_row s.rows
          (all_sorted
          (λ r. BoundsHold t L (slow_row r).stage) s.rows
          (stack_bounds f t H 0 t L (sorted s.rows) (omega arith) within v.stack));
      resumable =
          λ nobody.
          All-map (λ r. Resumable t H r.stage) slow_row s.rows
          (all_sorted
          (λ r. Resumable t H (slow_row r).stage) s.rows
          (stack_resumable
          t H H 0 t (sorted s.rows) (λ h. h)
          (subst (λ f. Stack t f H 0 t (sorted s.rows)) nobody v.stack)));
      handed_holds = omega (arith, within, stack_handed f t H 0 H D t (sorted s.rows) v.stack v.handed);
      chosen_well =
          from_front (first pending (map slow_row s.rows))
          (subst
          (FrontWell f t H D L) (sym (first-is_front s.rows))
          (stack_front f t H D t L (sorted s.rows) (omega arith) within v.stack v.handed));
    }
  where
    t : ℕ
    t = s.clock

    H : ℕ
    H = s.handed_bound

    D : ℕ
    D = s.handed_deadline

    f : Bool
    f = somebody_runs (map slow_row s.rows)

    L : ℕ
    L = s.clock + budgets (map slow_row s.rows)

    within : t + summed budget_of (sorted s.rows) ≤ L
    within = omega (arith, summed-sorted budget_of s.rows ∙ summed-budgets s.rows)

    one_at_most : (f : Bool) → cond f 1 0 ≤ 1
    one_at_most f = grind (arith, nat_tests)

    running-one : how_many runs (map slow_row s.rows) ≡ cond f 1 0
    running-one =
        sym (summed-sorted one_if_runs s.rows ∙ summed-runs s.rows)
        ∙ stack_runs f t H 0 t (sorted s.rows) v.stack

    from_front : (m : Option SlowRow) → FrontWell f t H D L m → ChosenWell (slow s) m
    from_front None h = tt
    from_front (Some m) h = h

-- Every slowed run of jobs with budgets is sound.
pub slow-run_sound : (cs : List Call) → Budgeted cs → Sound (SlowRun.run SlowRun.fresh cs)
slow-run_sound cs p =
    subst Sound (slow-of_run both_fresh cs) (sound_state (both_run both_fresh cs) (invariant_always cs p))

-- The chosen job is one of the jobs, and its stage passes the test.
abbrev ChosenHas : (SlowRow → Type 0) → Option SlowRow → Type 0
ChosenHas P None = Unit {0}
ChosenHas P (Some m) = P m

chosen_has :
    (P : SlowRow → Type 0) (test : Stage → Bool) (rows : List SlowRow)
    → AllByRecursion P rows
    → ChosenHas (λ m. (test m.stage ≡ true) × P m) (first test rows)
chosen_has P test [] h = tt
chosen_has P test (r ∷ rs) h = go (test r.stage) (first test rs) refl (chosen_has P test rs h.1)
  where
    go :
        (v : Bool) (o : Option SlowRow)
        → test r.stage ≡ v
        → ChosenHas (λ m. (test m.stage ≡ true) × P m) o
        → ChosenHas (λ m. (test m.stage ≡ true) × P m) (cond v (Some (earlier r o)) o)
    go false o e k = k
    go true None e k = (e, h.0)
    go true (Some q) e k =
        cond_both
        (leb r.job.deadline q.job.deadline)
        r
        q
        (λ m. (test m.stage ≡ true) × P m)
        (λ _. (e, h.0))
        (λ _. k)

pub first-has :
    (P : SlowRow → Type 0) (test : Stage → Bool) (rows : List SlowRow) (m : SlowRow)
    → AllByRecursion P rows
    → first test rows ≡ Some m
    → (test m.stage ≡ true) × P m
first-has P test rows m h e = subst (ChosenHas (λ m. (test m.stage ≡ true) × P m)) e (chosen_has P test rows h)

-- The job that the next tick chooses is chosen well.
pub chosen_well_at : (s : Slow) (m : SlowRow) → Sound s → first pending s.rows ≡ Some m → ChosenWell s (Some m)
chosen_well_at s m h e = subst (ChosenWell s) e h.chosen_well

-- A resumed job has at least the time up to its new bound that it had left when it was set aside.
pub resume_has_time :
    (s : Slow) (j : Job) (bound noted : ℕ)
    → Sound s
    → first pending s.rows ≡ Some (record { job = j; stage = aside bound noted })
    → bound - noted ≤ bound_of s (record { job = j; stage = aside bound noted }) - s.clock
resume_has_time s j bound noted h e = (chosen_well_at s (record { job = j; stage = aside bound noted }) h e).2

-- A job that starts has its budget in time up to its bound.
pub start_has_time :
    (s : Slow) (j : Job)
    → Sound s
    → first pending s.rows ≡ Some (record { job = j; stage = waiting })
    → s.clock + j.budget ≤ bound_of s (record { job = j; stage = waiting })
start_has_time s j h e = (chosen_well_at s (record { job = j; stage = waiting }) h e).2
