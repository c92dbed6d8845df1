-- The invariant of the two runs side by side, over the list sorted by priority; and that an arrival keeps it.
use Rattle.std.proofs.Common.{◌≡◌, ℕ, ◌+◌, ◌-◌, ◌<◌, ◌≤◌, Bool, true, false, ◌⊎◌, List, [], ◌∷◌, None, Option, refl, inl, inr, ⊎_elim, arith}
use Rattle.std.proofs.lemmas.Bool.Decides.{nat_tests}
use Rattle.cues.specs.Demand.{Job}
use Rattle.runs.specs.SlowRun.{Stage, waiting, running, aside, over}
use Rattle.runs.specs.NeverBehind.{NotBehind}
use Rattle.runs.proofs.SortedRun.{Both, row, insert}

-- Down the list: the clock t; whether the running job is still to come; the bound E of the nearest started job above, as it
-- would be on its resumption (the handed bound, if none is above); the budgets W waiting above; and Q, the clock and the
-- ticks left above. A pending job has ticks left, a started one will be over by Q even after all that waits above it, and
-- started jobs lie in one stack with the running one on top.
abbrev pub Stack : ℕ → Bool → ℕ → ℕ → ℕ → List Both → Type 0
Stack t true E W Q [] = ⊥
Stack t false E W Q [] = Unit {0}
Stack t f E W Q (row j l e waiting ∷ rs) =
    ((l ≡ j.budget) × (1 ≤ l)) × NotBehind waiting e × Stack t f E (W + l) (Q + l) rs
Stack t true E W Q (row j l e (running b) ∷ rs) =
    ((l ≤ j.budget) × (1 ≤ l) × (t < b) × (b + W ≤ Q + l)) × NotBehind (running b) e × Stack t false b W (Q + l) rs
Stack t false E W Q (row j l e (running b) ∷ rs) = ⊥
Stack t true E W Q (row j l e (aside b n) ∷ rs) = ⊥
Stack t false E W Q (row j l e (aside b n) ∷ rs) =
    ((l ≤ j.budget) × (1 ≤ l) × (n < b) × (n ≤ t) × (t ≤ E) × (b + E - n + W ≤ Q + l))
    × NotBehind (aside b n) e
    × Stack t false (b + E - n) W (Q + l) rs
Stack t f E W Q (row j l e (over s b) ∷ rs) =
    ((l ≤ j.budget) × (s ≤ b) × (s ≤ t) × (b ≤ Q + l)) × NotBehind (over s b) e × Stack t f E W (Q + l) rs

-- A job is due before what was handed on: a waiting one strictly.
abbrev pub Before : Stage → ℕ → ℕ → Type 0
Before waiting d D = d < D
Before (running b) d D = d ≤ D
Before (aside b n) d D = d ≤ D
Before (over s b) d D = d ≤ D

-- At every place of the list, the handed bound H is no later than the clock and the ticks left above, or the job that
-- follows is due before the handed deadline D.
abbrev pub Handed : ℕ → ℕ → ℕ → List Both → Type 0
Handed H D Q [] = H ≤ Q
Handed H D Q (row j l e st ∷ rs) = ((H ≤ Q) ⊎ Before st j.deadline D) × Handed H D (Q + l) rs

-- What may change above a place without harm to what stands there and below.
abbrev pub Eased : Bool → ℕ → ℕ → ℕ → ℕ → ℕ → ℕ → ℕ → ℕ → Type 0
Eased true t t' E E' W W' Q Q' = (t' ≤ t) × (W' + Q ≤ W + Q')
Eased false t t' E E' W W' Q Q' = t ≤ E → (t' ≤ E') × (E' + W' + Q ≤ E + W + Q')

eased_below :
    (f : Bool) (t t' E E' W W' Q Q' V V' l : ℕ)
    → V' + W ≤ V + W'
    → Eased f t t' E E' W W' Q Q'
    → Eased f t t' E E' V V' (Q + l) (Q' + l)
eased_below f t t' E E' W W' Q Q' V V' l v h = grind (arith, nat_tests)

pub stack_eased :
    (f : Bool) (t t' E E' W W' Q Q' : ℕ) (rs : List Both)
    → t ≤ t'
    → Q ≤ Q'
    → Eased f t t' E E' W W' Q Q'
    → Stack t f E W Q rs
    → Stack t' f E' W' Q' rs
stack_eased f t t' E E' W W' Q Q' [] a q h s = grind (arith, nat_tests)
stack_eased f t t' E E' W W' Q Q' (row j l e st ∷ rs) a q h s =
    let waits = stack_eased f t t' E E' (W + l) (W' + l) (Q + l) (Q' + l) rs a (omega arith) (eased_below f t t' E E' W W' Q Q' (W + l) (W' + l) l (omega arith) h) in
    let ends = stack_eased f t t' E E' W W' (Q + l) (Q' + l) rs a (omega arith) (eased_below f t t' E E' W W' Q Q' W W' l (omega arith) h) in
    let started = λ (E E' : ℕ). stack_eased false t t' E E' W W' (Q + l) (Q' + l) rs a (omega arith) in
    grind (arith, nat_tests, waits, ends, started)

stack_waiting :
    (f : Bool) (t E W Q : ℕ) (j : Job) (rs : List Both)
    → 1 ≤ j.budget
    → Stack t f E W Q rs
    → Stack t f E W Q (row j j.budget None waiting ∷ rs)
stack_waiting f t E W Q j rs p s = (
  (refl, p),
  tt,
  stack_eased f t t E E W (W + j.budget) Q (Q + j.budget) rs (omega arith) (omega arith) (eased f) s,
)
  where
    eased : (f : Bool) → Eased f t t E E W (W + j.budget) Q (Q + j.budget)
    eased f = grind (arith, nat_tests)

stack_place :
    (f : Bool) (t E W Q : ℕ) (j : Job) (y : Both) (rs : List Both)
    → 1 ≤ j.budget
    → Stack t f E W Q (y ∷ rs)
    → Stack t f E W Q (y ∷ insert (row j j.budget None waiting) rs)
    → Stack t f E W Q (insert (row j j.budget None waiting) (y ∷ rs))
stack_place f t E W Q j y rs p s later = grind (arith, nat_tests, stack_waiting f t E W Q j (y ∷ rs) p s)

-- An arrival keeps the stack.
pub stack_insert :
    (f : Bool) (t E W Q : ℕ) (j : Job) (rs : List Both)
    → 1 ≤ j.budget
    → Stack t f E W Q rs
    → Stack t f E W Q (insert (row j j.budget None waiting) rs)
stack_insert f t E W Q j [] p s = stack_waiting f t E W Q j [] p s
stack_insert f t E W Q j (row i l e st ∷ rs) p s =
    let below = λ (f : Bool) (E W : ℕ). stack_insert f t E W (Q + l) j rs p in
    grind (arith, nat_tests, below, stack_place f t E W Q j (row i l e st) rs p s)

handed-later : (H D Q Q' : ℕ) (rs : List Both) → Q ≤ Q' → Handed H D Q rs → Handed H D Q' rs
handed-later H D Q Q' [] q h = omega arith
handed-later H D Q Q' (row j l e st ∷ rs) q h =
    (⊎_elim (λ a. inl (omega arith)) inr h.0, handed-later H D (Q + l) (Q' + l) rs (omega arith) h.1)

-- An arrival is due before the handed deadline, or comes behind the job that handed it on.
pub handed-insert :
    (H D Q : ℕ) (j : Job) (l : ℕ) (e : Option ℕ) (rs : List Both)
    → Handed H D Q rs
    → Handed H D Q (insert (row j l e waiting) rs)
handed-insert H D Q j l e [] h = (inl h, omega arith)
handed-insert H D Q j l e (row i k e' st ∷ rs) h =
    grind (arith, nat_tests, handed-insert H D (Q + k) j l e rs h.1, handed-later H D Q (Q + l) (row i k e' st ∷ rs) (omega arith) h)
