-- The law over whole runs: the slowed run is never behind the reference run, and its bounds hold.
use Rattle.std.proofs.Common.{◌≡◌, ℕ, ◌+◌, ◌≤◌, Bool, cond, List, [], ◌∷◌, map, Some, None, Option, sym, refl, ◌∙◌, subst, subst₂, arith}
use mathlib.Core.Path.{subst₃}
use Rattle.std.specs.List.{AllByRecursion}
use Rattle.std.proofs.lemmas.Bool.Decides.{nat_tests}
use Rattle.runs.specs.ReferenceRun
use Rattle.runs.specs.SlowRun
use Rattle.runs.specs.SlowRun.{Call, arrival, tick, waiting, running, aside, over, Slow, SlowRow, pending, runs, somebody_runs, first, ticked}
use Rattle.runs.specs.NeverBehind.{Budgeted, accepted, NotBehind, RowsAgree}
use Rattle.runs.proofs.SortedRun.{Both, row, slow_row, reference_row, serve_first, rows_at, runs_at, bound_on, deadline_on}
use Rattle.runs.proofs.Sorting.{sorted, sorted-push, sorted-is_sorted, all_sorted, summed, summed-sorted}
use Rattle.runs.proofs.Stack.{Stack, Handed, stack_insert, handed-insert}
use Rattle.runs.proofs.StackTick.{Kept, kept_tick}
use Rattle.runs.proofs.BothRuns.{State, slow, both_fresh, both_step, both_run, slow-of_run, reference-of_run, first-is_front, sorted-tick}

-- The stack tells how many run.
abbrev pub one_if_runs : Both → ℕ
one_if_runs r = cond (runs (slow_row r).stage) 1 0

pub stack_runs : (f : Bool) (t E W Q : ℕ) (rs : List Both) → Stack t f E W Q rs → summed one_if_runs rs ≡ cond f 1 0
stack_runs f t E W Q [] s = grind (arith, nat_tests)
stack_runs f t E W Q (row j l e st ∷ rs) s =
    let below = λ (f : Bool) (E W : ℕ). stack_runs f t E W (Q + l) rs in
    grind (arith, nat_tests, below)

somebody_from_count : (f : Bool) (rs : List Both) → summed one_if_runs rs ≡ cond f 1 0 → somebody_runs (map slow_row rs) ≡ f
somebody_from_count f [] h = grind (arith, nat_tests)
somebody_from_count f (row j l e st ∷ rs) h = grind (arith, nat_tests, somebody_from_count f rs)

stack_somebody :
    (f : Bool) (t E W Q : ℕ) (rs : List Both) → Stack t f E W Q (sorted rs) → somebody_runs (map slow_row rs) ≡ f
stack_somebody f t E W Q rs s =
    somebody_from_count f rs (sym (summed-sorted one_if_runs rs) ∙ stack_runs f t E W Q (sorted rs) s)

-- The invariant of both runs.
pub record Invariant (s : State) : Type 0 where
  pub stack : Stack s.clock (somebody_runs (map slow_row s.rows)) s.handed_bound 0 s.clock (sorted s.rows)
  pub handed : Handed s.handed_bound s.handed_deadline s.clock (sorted s.rows)

invariant_from :
    (s : State) (f : Bool)
    → Stack s.clock f s.handed_bound 0 s.clock (sorted s.rows)
    → Handed s.handed_bound s.handed_deadline s.clock (sorted s.rows)
    → Invariant s
invariant_from s f k h =
    record {
      stack =
          subst (λ f. Stack s.clock f s.handed_bound 0 s.clock (sorted s.rows))
          (sym (stack_somebody f s.clock s.handed_bound 0 s.clock s.rows k)) k;
      handed = h;
    }

invariant_arrival : (s : State) (d b : ℕ) → 1 ≤ b → Invariant s → Invariant (both_step s (arrival d b))
invariant_arrival s d b p v =
    invariant_from (both_step s (arrival d b)) (somebody_runs (map slow_row s.rows))
    (subst
    (Stack s.clock (somebody_runs (map slow_row s.rows)) s.handed_bound 0 s.clock)
    (sym (sorted-push s.rows (row (record { release = s.clock; deadline = d; budget = b }) b None waiting)))
    (stack_insert
    (somebody_runs (map slow_row s.rows)) s.clock s.handed_bound 0 s.clock (record { release = s.clock; deadline = d; budget = b })
    (sorted s.rows) p
    v.stack))
    (subst
    (Handed s.handed_bound s.handed_deadline s.clock)
    (sym (sorted-push s.rows (row (record { release = s.clock; deadline = d; budget = b }) b None waiting)))
    (handed-insert
    s.handed_bound s.handed_deadline s.clock (record { release = s.clock; deadline = d; budget = b }) b None (sorted s.rows)
    v.handed))

bound_handed_on :
    (s : State) (early : Bool) (m : Option SlowRow)
    → (ticked (slow s) early m).handed_bound
    ≡ bound_on early (somebody_runs (map slow_row s.rows)) s.clock s.handed_bound s.handed_deadline m
bound_handed_on s early None = refl
bound_handed_on s early (Some m) = refl

deadline_handed_on :
    (s : State) (early : Bool) (m : Option SlowRow)
    → (ticked (slow s) early m).handed_deadline
    ≡ deadline_on early (somebody_runs (map slow_row s.rows)) s.clock s.handed_bound s.handed_deadline m
deadline_handed_on s early None = refl
deadline_handed_on s early (Some m) = refl

invariant_tick : (s : State) (early : Bool) → Invariant s → Invariant (both_step s (tick early))
invariant_tick s early v = invariant_from (both_step s (tick early)) (runs_at early f t H D m) next.0 next.1
  where
    t : ℕ
    t = s.clock

    H : ℕ
    H = s.handed_bound

    D : ℕ
    D = s.handed_deadline

    f : Bool
    f = somebody_runs (map slow_row s.rows)

    m : Option SlowRow
    m = first pending (map slow_row s.rows)

    next :
        Stack (t + 1) (runs_at early f t H D m) (both_step s (tick early)).handed_bound 0 (t + 1) (sorted (both_step s (tick early)).rows)
        × Handed (both_step s (tick early)).handed_bound (both_step s (tick early)).handed_deadline (t + 1) (sorted (both_step s (tick early)).rows)
    next =
        subst₃ (λ b d rs. Stack (t + 1) (runs_at early f t H D m) b 0 (t + 1) rs × Handed b d (t + 1) rs)
        (sym (bound_handed_on s early m)) (sym (deadline_handed_on s early m)) (sym (sorted-tick s early))
        (subst
        (λ m. Kept early f t H D (t + 1) m (rows_at early f t H D m (serve_first (t + 1) (sorted s.rows))))
        (sym (first-is_front s.rows))
        (kept_tick early t H D f t (t + 1) (sorted s.rows) refl refl (sorted-is_sorted s.rows) v.stack v.handed))

invariant_run : (s : State) (cs : List Call) → Budgeted cs → Invariant s → Invariant (both_run s cs)
invariant_run s [] p v = v
invariant_run s (arrival d b ∷ cs) p v =
    invariant_run (both_step s (arrival d b)) cs p.1 (invariant_arrival s d b p.0 v)
invariant_run s (tick early ∷ cs) p v = invariant_run (both_step s (tick early)) cs p (invariant_tick s early v)

pub invariant_always : (cs : List Call) → Budgeted cs → Invariant (both_run both_fresh cs)
invariant_always cs p = invariant_run both_fresh cs p (record { stack = tt; handed = omega arith })

-- None is behind.
abbrev RowAgrees : Both → Type 0
RowAgrees r = NotBehind (slow_row r).stage (reference_row r).end

stack_agrees : (f : Bool) (t E W Q : ℕ) (rs : List Both) → Stack t f E W Q rs → AllByRecursion RowAgrees rs
stack_agrees f t E W Q [] s = tt
stack_agrees f t E W Q (row j l e st ∷ rs) s =
    let below = λ (f : Bool) (E W : ℕ). stack_agrees f t E W (Q + l) rs in
    grind (arith, nat_tests, below)

rows_agree : (rs : List Both) → AllByRecursion RowAgrees rs → RowsAgree (map slow_row rs) (map reference_row rs)
rows_agree [] h = tt
rows_agree (row j l e st ∷ rs) h = (refl, h.0, rows_agree rs h.1)

-- The slowed run of any accepted calls has the clock and the jobs of their reference run, and no job is behind.
pub slow-run_not_behind :
    (cs : List Call)
    → Budgeted cs
    → ((SlowRun.run SlowRun.fresh cs).clock ≡ (ReferenceRun.run ReferenceRun.fresh (map accepted cs)).clock)
    × RowsAgree (SlowRun.run SlowRun.fresh cs).rows (ReferenceRun.run ReferenceRun.fresh (map accepted cs)).rows
slow-run_not_behind cs p =
    subst₂ (λ (s : Slow) (r : ReferenceRun.Reference). (s.clock ≡ r.clock) × RowsAgree s.rows r.rows) (slow-of_run both_fresh cs)
    (reference-of_run both_fresh cs) (
      refl,
      rows_agree
          (both_run both_fresh cs).rows
          (all_sorted RowAgrees (both_run both_fresh cs).rows (stack_agrees _ _ _ _ _ _ (invariant_always cs p).stack)),
    )
