-- Jobs and the demand of an interval.
use Rattle.std.specs.Prelude.{ℕ, ◌+◌, ◌-◌, ◌<◌, ◌≤◌, Bool, cond, ◌&&◌, List, [], ◌∷◌, nat_le}

-- A piece of work: it may begin at its release, must be over at its deadline, and takes its budget in ticks at the top rate.
pub record Job : Type 0 where
  pub release : ℕ
  pub deadline : ℕ
  pub budget : ℕ

-- The job has to be played inside [a, b): it is released at a or later, and due at b or earlier.
abbrev pub inside : ℕ → ℕ → Job → Bool
inside a b j = nat_le a j.release && nat_le j.deadline b

-- The demand of [a, b): the summed budgets of the jobs inside it.
abbrev pub demand : List Job → ℕ → ℕ → ℕ
demand [] a b = 0
demand (j ∷ js) a b = cond (inside a b j) j.budget 0 + demand js a b

-- Some interval demands more ticks than it has.
abbrev pub Overloaded : List Job → Type 0
Overloaded js = (a : ℕ) × (b : ℕ) × (a < b) × (b - a < demand js a b)

-- No interval demands more ticks than it has.
abbrev pub Feasible : List Job → Type 0
Feasible js = (a b : ℕ) → a < b → demand js a b ≤ b - a
