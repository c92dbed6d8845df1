-- The loading factor: the greatest demand for its length that any interval has.
use Rattle.std.specs.Prelude.{◌≡◌, ℕ, ◌-◌, ◌*◌, ◌<◌, ◌≤◌, ◌⊎◌, List, [], ◌∷◌, length, slice_index_or}
use Rattle.cues.specs.Demand.{Job, demand}

-- Some job of the list is so.
abbrev pub SomeJob : (Job → Type 0) → List Job → Type 0
SomeJob P js = (k : ℕ) × (k < length js) × ((j : Job) → P (slice_index_or js k j))

-- [a, b) goes from a release to a deadline, has the length l and the demand d, and no interval has a greater demand for its length; of those with as great a one it starts first, and of those ends first.
pub record Greatest (js : List Job) (d l a b : ℕ) : Type 0 where
  pub starts : SomeJob (λ j. j.release ≡ a) js
  pub ends : SomeJob (λ j. j.deadline ≡ b) js
  pub rising : a < b
  pub long : l ≡ b - a
  pub demands : d ≡ demand js a b
  pub greatest : (x y : ℕ) → x < y → demand js x y * l ≤ d * (y - x)
  pub first : (x y : ℕ) → x < y → demand js x y * l ≡ d * (y - x) → (a < x) ⊎ ((a ≡ x) × (b ≤ y))

-- The loading factor of no job is (0, 1, 0, 1), and of others the greatest.
abbrev pub Loading : List Job → ℕ → ℕ → ℕ → ℕ → Type 0
Loading [] d l a b = (d ≡ 0) × (l ≡ 1) × (a ≡ 0) × (b ≡ 1)
Loading (j ∷ js) d l a b = Greatest (j ∷ js) d l a b
