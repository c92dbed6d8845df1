-- The bound of a chosen job fits the invariant: it lies ahead of the clock, and the stack below can stand on it.
use Rattle.std.proofs.Common.{◌≡◌, ℕ, ◌+◌, ◌-◌, ◌<◌, ◌≤◌, Bool, true, false, not, List, [], ◌∷◌, Option, sym, refl, subst, arith}
use Rattle.std.proofs.lemmas.Bool.Decides.{nat_tests}
use Rattle.cues.specs.Demand.{Job}
use Rattle.runs.specs.SlowRun.{Stage, runs, pending}
use Rattle.runs.specs.NeverBehind.{NotBehind, TimeEnough}
use Rattle.runs.proofs.SortedRun.{Both, row, others, bound_at}
use Rattle.runs.proofs.Stack.{Stack, Handed, stack_eased}

-- A job that is not over has no reference end, so nothing is asked of its next stage.
pub not-behind_on : (st st' : Stage) (e : Option ℕ) → pending st ≡ true → NotBehind st e → NotBehind st' e
not-behind_on st st' e p h = grind (arith, nat_tests)

-- Where nobody runs, nobody is set aside.
nobody_yields : (switch : Bool) (u t E W Q : ℕ) (rs : List Both) → Stack t false E W Q rs → others switch u rs ≡ rs
nobody_yields x u t E W Q [] s = refl
nobody_yields x u t E W Q (row j l e st ∷ rs) s =
    let below = λ (E W : ℕ). nobody_yields x u t E W (Q + l) rs in
    grind (arith, nat_tests, below)

-- Below a chosen job where nobody runs, the stack stands on its bound.
stack_yields :
    (switch : Bool) (t E E' W W' Q Q' : ℕ) (rs : List Both)
    → Q ≤ Q'
    → (t ≤ E → (t + 1 ≤ E') × (E' + W' + Q ≤ E + W + Q'))
    → Stack t false E W Q rs
    → Stack (t + 1) false E' W' Q' (others switch t rs)
stack_yields x t E E' W W' Q Q' rs q h s =
    subst (Stack (t + 1) false E' W' Q') (sym (nobody_yields x t t E W Q rs s))
    (stack_eased false t (t + 1) E E' W W' Q Q' rs (omega arith) q h s)

-- The running job is set aside under one that starts: what that one takes from the waiting it adds to the bounds.
stack_set_aside :
    (t E E' W W' Q : ℕ) (rs : List Both)
    → t < E'
    → E' + W' ≤ t + W
    → Stack t true E W Q rs
    → Stack (t + 1) false E' W' Q (others true t rs)
stack_set_aside t E E' W W' Q [] a h s = absurd s
stack_set_aside t E E' W W' Q (row j l e st ∷ rs) a h s =
    let below = λ (W W' : ℕ). stack_set_aside t E E' W W' (Q + l) rs a in
    let yields = λ (b : ℕ). stack_yields true t b (b + E' - t) W W' (Q + l) (Q + l) rs (omega arith) in
    grind (arith, nat_tests, below, yields)

-- The bound b of a chosen job: it lies ahead of the clock, is no later than Q, leaves the job time enough, and the stack
-- below stands on it.
abbrev pub Fits : ℕ → ℕ → Stage → ℕ → ℕ → List Both → Type 0
Fits t budget st b Q rs =
    (t < b) × (b ≤ Q) × TimeEnough st t budget b × Stack (t + 1) false b 0 Q (others (not (runs st)) t rs)

pub chosen_fits :
    (f : Bool) (t H D Q : ℕ) (j : Job) (l : ℕ) (e : Option ℕ) (st : Stage) (rs : List Both)
    → pending st ≡ true
    → t ≤ Q
    → Stack t f H 0 Q (row j l e st ∷ rs)
    → Handed H D Q (row j l e st ∷ rs)
    → Fits t j.budget st (bound_at f t H D (record { job = j; stage = st })) (Q + l) rs
chosen_fits f t H D Q j l e st rs p q s h =
    let starts = stack_set_aside t H (t + j.budget) (0 + l) 0 (Q + l) rs in
    let yields = λ (E E' W : ℕ). stack_yields (not (runs st)) t E E' W 0 (Q + l) (Q + l) rs (omega arith) in
    grind (arith, nat_tests, starts, yields)
