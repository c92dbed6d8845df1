-- The demand of an interval: an interval with work in it shrinks to one from a release to a deadline, with the same demand.
use Rattle.std.proofs.Common.{◌≡◌, ℕ, zero, suc, ◌+◌, ◌<◌, ◌≤◌, cond, ◌⊎◌, List, [], ◌∷◌, refl, ◌∙◌, inl, inr, ⊎_elim, arith}
use Rattle.std.specs.List.{AllByRecursion}
use Rattle.std.proofs.lemmas.Bool.{cases_eq}
use Rattle.std.proofs.lemmas.Bool.Decides.{nat_tests}
use Rattle.cues.specs.Demand.{Job, inside, demand}
use Rattle.cues.specs.Loading.{SomeJob}

-- Each job has time, and takes some.
abbrev pub Timely : List Job → Type 0
Timely js = AllByRecursion (λ j. (j.release < j.deadline) × (0 < j.budget)) js

later : (P : Job → Type 0) (j : Job) (js : List Job) → SomeJob P js → SomeJob P (j ∷ js)
later P j js found = (suc found.0, omega (arith, found.1), found.2)

-- the budget that a job brings to [a, b)
abbrev brings : ℕ → ℕ → Job → ℕ
brings a b j = cond (inside a b j) j.budget 0

-- an interval that ends where it starts, or before, has no demand
pub no_demand : (js : List Job) (a b : ℕ) → Timely js → b ≤ a → demand js a b ≡ 0
no_demand [] a b timely empty = refl
no_demand (j ∷ js) a b timely empty =
    let none : brings a b j ≡ 0 = let rising = timely.0.0 in grind (arith, nat_tests) in
    let rest = no_demand js a b timely.1 empty in
    omega arith

-- the first job is in its own interval
pub own_demand : (j : Job) (js : List Job) → j.budget ≤ demand (j ∷ js) j.release j.deadline
own_demand j js =
    let own : brings j.release j.deadline j ≡ j.budget = grind (arith, nat_tests) in
    omega arith

-- some job is released at x, or the interval may start one later
released-at : (js : List Job) (x : ℕ) → SomeJob (λ j. j.release ≡ x) js ⊎ ((y : ℕ) → demand js (x + 1) y ≡ demand js x y)
released-at [] x = inr (λ y. refl)
released-at (j ∷ js) x =
    ⊎_elim
    (λ e. inl (0, omega arith, λ d. e))
    (λ (ne : j.release ≡ x → ⊥).
    ⊎_elim
    (λ found. inl (later (λ j. j.release ≡ x) j js found))
    (λ rest. inr (λ y.
    let same : brings (x + 1) y j ≡ brings x y j = grind (arith, nat_tests) in
    let others = rest y in
    omega arith))
    (released-at js x))
    (cases_eq j.release x)

-- some job is due one after y, or the interval may end one earlier
due-at : (js : List Job) (y : ℕ) → SomeJob (λ j. j.deadline ≡ suc y) js ⊎ ((x : ℕ) → demand js x y ≡ demand js x (suc y))
due-at [] y = inr (λ x. refl)
due-at (j ∷ js) y =
    ⊎_elim
    (λ e. inl (0, omega arith, λ d. e))
    (λ (ne : j.deadline ≡ suc y → ⊥).
    ⊎_elim
    (λ found. inl (later (λ j. j.deadline ≡ suc y) j js found))
    (λ rest. inr (λ x.
    let same : brings x y j ≡ brings x (suc y) j = grind (arith, nat_tests) in
    let others = rest x in
    omega arith))
    (due-at js y))
    (cases_eq j.deadline (suc y))

module _ (js : List Job) (timely : Timely js) where
  -- an interval with work in it may start at a release
  start-later : (fuel x y : ℕ) → y ≤ x + fuel → 0 < demand js x y → (a : ℕ) × SomeJob (λ j. j.release ≡ a) js × (x ≤ a) × (demand js a y ≡ demand js x y)
  start-later zero x y enough some = absurd (let none = no_demand js x y timely (omega arith) in omega arith)
  start-later (suc fuel) x y enough some =
      ⊎_elim
      (λ found. (x, found, omega arith, refl))
      (λ (same : (y : ℕ) → demand js (x + 1) y ≡ demand js x y).
      let step = same y in
      let rest = start-later fuel (x + 1) y (omega arith) (omega arith) in
      (rest.0, rest.1, omega (arith, rest.2), rest.3 ∙ step))
      (released-at js x)

  -- an interval with work in it may end at a deadline
  end-earlier : (y x : ℕ) → 0 < demand js x y → (b : ℕ) × SomeJob (λ j. j.deadline ≡ b) js × (b ≤ y) × (demand js x b ≡ demand js x y)
  end-earlier zero x some = absurd (let none = no_demand js x 0 timely (omega arith) in omega arith)
  end-earlier (suc y) x some =
      ⊎_elim
      (λ found. (suc y, found, omega arith, refl))
      (λ (same : (x : ℕ) → demand js x y ≡ demand js x (suc y)).
      let step = same x in
      let rest = end-earlier y x (omega arith) in
      (rest.0, rest.1, omega (arith, rest.2), rest.3 ∙ step))
      (due-at js y)

  -- an interval with work in it has one inside it, from a release to a deadline, with the same demand
  pub shrinks : (x y : ℕ) → 0 < demand js x y
      → (a : ℕ) × (b : ℕ) × SomeJob (λ j. j.release ≡ a) js × SomeJob (λ j. j.deadline ≡ b) js × (x ≤ a) × (b ≤ y) × (demand js a b ≡ demand js x y)
  shrinks x y some =
      let starts = start-later y x y (omega arith) some in
      let same = starts.3 in
      let ends = end-earlier y starts.0 (omega arith) in
      (starts.0, ends.0, starts.1, ends.1, starts.2, ends.2, ends.3 ∙ same)
