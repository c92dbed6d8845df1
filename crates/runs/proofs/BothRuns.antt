-- Both runs of the same calls side by side, over one list of jobs in order of acceptance. Each run is a part of it, and
-- sorted by priority it takes the steps of the sorted run.
use Rattle.std.proofs.Common.{◌≡◌, ℕ, ◌+◌, ◌-◌, Bool, cond, not, eqb, ltb, List, [], ◌∷◌, ◌++◌, map, Some, None, Option, sym, refl, ap, ◌∙◌, arith}
use Rattle.std.proofs.lemmas.List.{map_push}
use Rattle.std.proofs.lemmas.Bool.Decides.{nat_tests}
use Rattle.runs.specs.ReferenceRun
use Rattle.runs.specs.ReferenceRun.{Reference, soonest, serve, serve_soonest}
use Rattle.runs.specs.SlowRun
use Rattle.runs.specs.SlowRun.{Call, arrival, tick, Stage, waiting, running, aside, over, Slow, SlowRow, pending, runs, somebody_runs, earlier, first, set_aside, make_way, put, stage_of, ticked}
use Rattle.runs.specs.NeverBehind.{accepted}
use Rattle.runs.proofs.SortedRun.{Both, row, due, slow_row, reference_row, serve_first, front, others, put_first, rows_at}
use Rattle.runs.proofs.Sorting.{sorted, sorted-others, earliest, change, change_first, sorted-change, sorted-unchanged, leading, first-is-leading}

-- Both runs at once.
pub record State : Type 0 where
  pub clock : ℕ
  pub rows : List Both
  pub handed_bound : ℕ
  pub handed_deadline : ℕ

abbrev pub slow : State → Slow
slow s =
    record {
      clock = s.clock;
      rows = map slow_row s.rows;
      handed_bound = s.handed_bound;
      handed_deadline = s.handed_deadline;
    }

abbrev pub reference : State → Reference
reference s = record { clock = s.clock; rows = map reference_row s.rows }

-- The reference run's tick.
abbrev has_left : Both → Bool
has_left (row j l e st) = ltb 0 l

abbrev serve_row : ℕ → Both → Both
serve_row after (row j l e st) = row j (l - 1) (cond (eqb l 1) (Some after) e) st

abbrev served_rows : ℕ → Option ℕ → List Both → List Both
served_rows after None rs = rs
served_rows after (Some d) rs = change has_left (serve_row after) d rs

-- The slowed run's tick.
abbrev is_pending : Both → Bool
is_pending (row j l e st) = pending st

abbrev restage : Stage → Both → Both
restage new (row j l e st) = row j l e new

abbrev chosen_rows : Slow → Bool → Option SlowRow → List Both → List Both
chosen_rows s early None rs = rs
chosen_rows s early (Some m) rs =
    change is_pending (restage (stage_of s early m)) m.job.deadline (others (not (runs m.stage)) s.clock rs)

abbrev both_ticked : State → Bool → Option SlowRow → Option ℕ → State
both_ticked s early m d =
    record {
      clock = s.clock + 1;
      rows = chosen_rows (slow s) early m (served_rows (s.clock + 1) d s.rows);
      handed_bound = (ticked (slow s) early m).handed_bound;
      handed_deadline = (ticked (slow s) early m).handed_deadline;
    }

abbrev pub both_step : State → Call → State
both_step s (arrival d b) =
    record {
      clock = s.clock;
      rows = s.rows ++ (row (record { release = s.clock; deadline = d; budget = b }) b None waiting ∷ []);
      handed_bound = s.handed_bound;
      handed_deadline = s.handed_deadline;
    }
both_step s (tick early) =
    both_ticked s early (first pending (map slow_row s.rows)) (soonest (map reference_row s.rows))

abbrev pub both_run : State → List Call → State
both_run s [] = s
both_run s (c ∷ cs) = both_run (both_step s c) cs

abbrev pub both_fresh : State
both_fresh = record { clock = 0; rows = []; handed_bound = 0; handed_deadline = 0 }

-- A change that a view of the jobs does not show.
change-unseen :
    {X : Type 0} (view : Both → X) (test : Both → Bool) (new : Both → Both)
    → ((r : Both) → view (new r) ≡ view r)
    → (d : ℕ) (rs : List Both)
    → map view (change test new d rs) ≡ map view rs
change-unseen view test new same d [] = refl
change-unseen view test new same d (r ∷ rs) = grind (arith, nat_tests, same r, change-unseen view test new same d rs)

served-unseen : (after : ℕ) (o : Option ℕ) (rs : List Both) → map slow_row (served_rows after o rs) ≡ map slow_row rs
served-unseen after None rs = refl
served-unseen after (Some d) rs = change-unseen slow_row has_left (serve_row after) same d rs
  where
    same : (r : Both) → slow_row (serve_row after r) ≡ slow_row r
    same (row j l e st) = refl

served-seen :
    (after : ℕ) (o : Option ℕ) (rs : List Both)
    → map reference_row (served_rows after o rs) ≡ serve_soonest after o (map reference_row rs)
served-seen after None rs = refl
served-seen after (Some d) rs = go rs
  where
    go : (rs : List Both) → map reference_row (change has_left (serve_row after) d rs) ≡ serve after d (map reference_row rs)
    go [] = refl
    go (row j l e st ∷ rs) = grind (arith, nat_tests, go rs)

others-unseen : (switch : Bool) (t : ℕ) (rs : List Both) → map reference_row (others switch t rs) ≡ map reference_row rs
others-unseen switch t [] = refl
others-unseen switch t (row j l e st ∷ rs) = ap (λ r. record { job = j; left = l; end = e } ∷ r) (others-unseen switch t rs)

chosen_unseen :
    (s : Slow) (early : Bool) (m : Option SlowRow) (rs : List Both)
    → map reference_row (chosen_rows s early m rs) ≡ map reference_row rs
chosen_unseen s early None rs = refl
chosen_unseen s early (Some m) rs =
    change-unseen reference_row is_pending (restage (stage_of s early m)) same m.job.deadline
    (others (not (runs m.stage)) s.clock rs)
    ∙ others-unseen (not (runs m.stage)) s.clock rs
  where
    same : (r : Both) → reference_row (restage (stage_of s early m) r) ≡ reference_row r
    same (row j l e st) = refl

others-seen :
    (stage : Stage) (t : ℕ) (rs : List Both)
    → map slow_row (others (not (runs stage)) t rs) ≡ make_way stage t (map slow_row rs)
others-seen stage t [] = grind (arith, nat_tests)
others-seen stage t (row j l e st ∷ rs) = grind (arith, nat_tests, others-seen stage t rs)

put-seen :
    (d : ℕ) (stage : Stage) (rs : List Both)
    → map slow_row (change is_pending (restage stage) d rs) ≡ put d stage (map slow_row rs)
put-seen d stage [] = refl
put-seen d stage (row j l e st ∷ rs) = grind (arith, nat_tests, put-seen d stage rs)

slow-of_ticked :
    (s : State) (early : Bool) (m : Option SlowRow) (d : Option ℕ)
    → slow (both_ticked s early m d) ≡ ticked (slow s) early m
slow-of_ticked s early None d = λ i. record {
  clock = s.clock + 1;
  rows = served-unseen (s.clock + 1) d s.rows i;
  handed_bound = s.handed_bound;
  handed_deadline = s.handed_deadline;
}
slow-of_ticked s early (Some m) d = λ i. record {
  clock = s.clock + 1;
  rows = seen i;
  handed_bound = (ticked (slow s) early (Some m)).handed_bound;
  handed_deadline = (ticked (slow s) early (Some m)).handed_deadline;
}
  where
    left-rows : List Both
    left-rows = served_rows (s.clock + 1) d s.rows

    seen : map slow_row (chosen_rows (slow s) early (Some m) left-rows) ≡ (ticked (slow s) early (Some m)).rows
    seen =
        put-seen m.job.deadline (stage_of (slow s) early m) (others (not (runs m.stage)) s.clock left-rows)
        ∙ ap
        (put m.job.deadline (stage_of (slow s) early m))
        (others-seen m.stage s.clock left-rows
        ∙ ap (make_way m.stage s.clock) (served-unseen (s.clock + 1) d s.rows))

pub slow-of_step : (s : State) (c : Call) → slow (both_step s c) ≡ SlowRun.step (slow s) c
slow-of_step s (arrival d b) = λ i. record {
  clock = s.clock;
  rows = map_push slow_row s.rows (row (record { release = s.clock; deadline = d; budget = b }) b None waiting) i;
  handed_bound = s.handed_bound;
  handed_deadline = s.handed_deadline;
}
slow-of_step s (tick early) =
    slow-of_ticked s early (first pending (map slow_row s.rows)) (soonest (map reference_row s.rows))

pub reference-of_step : (s : State) (c : Call) → reference (both_step s c) ≡ ReferenceRun.step (reference s) (accepted c)
reference-of_step s (arrival d b) = λ i. record {
  clock = s.clock;
  rows = map_push reference_row s.rows (row (record { release = s.clock; deadline = d; budget = b }) b None waiting) i;
}
reference-of_step s (tick early) = λ i. record {
  clock = s.clock + 1;
  rows = seen i;
}
  where
    seen :
        (reference (both_step s (tick early))).rows
        ≡ serve_soonest (s.clock + 1) (soonest (map reference_row s.rows)) (map reference_row s.rows)
    seen =
        chosen_unseen (slow s) early (first pending (map slow_row s.rows))
        (served_rows (s.clock + 1) (soonest (map reference_row s.rows)) s.rows)
        ∙ served-seen (s.clock + 1) (soonest (map reference_row s.rows)) s.rows

pub slow-of_run : (s : State) (cs : List Call) → slow (both_run s cs) ≡ SlowRun.run (slow s) cs
slow-of_run s [] = refl
slow-of_run s (c ∷ cs) = slow-of_run (both_step s c) cs ∙ ap (λ x. SlowRun.run x cs) (slow-of_step s c)

pub reference-of_run :
    (s : State) (cs : List Call) → reference (both_run s cs) ≡ ReferenceRun.run (reference s) (map accepted cs)
reference-of_run s [] = refl
reference-of_run s (c ∷ cs) =
    reference-of_run (both_step s c) cs ∙ ap (λ x. ReferenceRun.run x (map accepted cs)) (reference-of_step s c)

-- The reference run's tick, sorted.
soonest-is_earliest : (rs : List Both) → soonest (map reference_row rs) ≡ earliest has_left rs
soonest-is_earliest [] = refl
soonest-is_earliest (row j l e st ∷ rs) = cc (soonest-is_earliest rs)

serve-is_change : (after : ℕ) (l : List Both) → change_first has_left (serve_row after) l ≡ serve_first after l
serve-is_change after [] = refl
serve-is_change after (row j l e st ∷ rs) = grind (arith, nat_tests, serve-is_change after rs)

sorted-served :
    (after : ℕ) (rs : List Both)
    → sorted (served_rows after (soonest (map reference_row rs)) rs) ≡ serve_first after (sorted rs)
sorted-served after rs = go (soonest (map reference_row rs)) (soonest-is_earliest rs) ∙ serve-is_change after (sorted rs)
  where
    keeps : (r : Both) → due (serve_row after r) ≡ due r
    keeps (row j l e st) = refl

    go :
        (o : Option ℕ)
        → o ≡ earliest has_left rs
        → sorted (served_rows after o rs) ≡ change_first has_left (serve_row after) (sorted rs)
    go None h = sorted-unchanged has_left (serve_row after) keeps rs (sym h)
    go (Some d) h = sorted-change has_left (serve_row after) keeps rs d (sym h)

-- The slowed run's tick, sorted.
put-is_change : (stage : Stage) (l : List Both) → change_first is_pending (restage stage) l ≡ put_first stage l
put-is_change stage [] = refl
put-is_change stage (row j l e st ∷ rs) = grind (arith, nat_tests, put-is_change stage rs)

abbrev deadline_of : Option SlowRow → Option ℕ
deadline_of None = None
deadline_of (Some m) = Some m.job.deadline

earliest-pending : (rs : List Both) → earliest is_pending rs ≡ deadline_of (first pending (map slow_row rs))
earliest-pending [] = refl
earliest-pending (row j l e st ∷ rs) = grind (arith, nat_tests, earliest-pending rs)

earliest-others :
    (switch : Bool) (t : ℕ) (rs : List Both) → earliest is_pending (others switch t rs) ≡ earliest is_pending rs
earliest-others switch t [] = refl
earliest-others switch t (row j l e st ∷ rs) = grind (arith, nat_tests, earliest-others switch t rs)

sorted-chosen :
    (s : Slow) (early : Bool) (m : Option SlowRow) (rs : List Both)
    → first pending (map slow_row rs) ≡ m
    → sorted (chosen_rows s early m rs)
    ≡ rows_at early (somebody_runs s.rows) s.clock s.handed_bound s.handed_deadline m (sorted rs)
sorted-chosen s early None rs h = refl
sorted-chosen s early (Some m) rs h =
    sorted-change is_pending (restage (stage_of s early m)) keeps (others switch s.clock rs) m.job.deadline
    (earliest-others switch s.clock rs ∙ earliest-pending rs ∙ ap deadline_of h)
    ∙ put-is_change (stage_of s early m) (sorted (others switch s.clock rs))
    ∙ ap (put_first (stage_of s early m)) (sorted-others switch s.clock rs)
  where
    switch : Bool
    switch = not (runs m.stage)

    keeps : (r : Both) → due (restage (stage_of s early m) r) ≡ due r
    keeps (row j l e st) = refl

front-is_leading : (l : List Both) → leading pending l ≡ front l
front-is_leading [] = refl
front-is_leading (row j l e st ∷ rs) = grind (arith, nat_tests, front-is_leading rs)

pub first-is_front : (rs : List Both) → first pending (map slow_row rs) ≡ front (sorted rs)
first-is_front rs = first-is-leading pending rs ∙ front-is_leading (sorted rs)

pub sorted-tick :
    (s : State) (early : Bool)
    → sorted (both_step s (tick early)).rows
    ≡ rows_at
    early (somebody_runs (map slow_row s.rows)) s.clock s.handed_bound s.handed_deadline (first pending (map slow_row s.rows))
    (serve_first (s.clock + 1) (sorted s.rows))
sorted-tick s early =
    sorted-chosen (slow s) early (first pending (map slow_row s.rows))
    (served_rows (s.clock + 1) (soonest (map reference_row s.rows)) s.rows)
    (ap (first pending) (served-unseen (s.clock + 1) (soonest (map reference_row s.rows)) s.rows))
    ∙ ap
    (rows_at
    early (somebody_runs (map slow_row s.rows)) s.clock s.handed_bound s.handed_deadline
    (first pending (map slow_row s.rows)))
    (sorted-served (s.clock + 1) s.rows)
