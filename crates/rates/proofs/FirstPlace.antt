-- A search that goes through places from 0 and stops at the first of which something does not hold.
use Rattle.std.proofs.Common.{◌≡◌, ℕ, zero, suc, ◌+◌, ◌<◌, Some, None, Option, arith}

-- What such a search over n places tells, which counts them from `start`: P holds of each, or the first of which it does not.
abbrev pub Found : (ℕ → Type 0) → ℕ → ℕ → Option ℕ → Type 0
Found P n start None = (k : ℕ) → k < n → P k
Found P n start (Some found) =
    (place : ℕ) × (found ≡ start + place) × (place < n) × ((k : ℕ) → k < place → P k) × (P place → ⊥)

at_each_place : (P : ℕ → Type 0) (n : ℕ) → P 0 → ((k : ℕ) → k < n → P (suc k)) → (k : ℕ) → k < suc n → P k
at_each_place P n first later zero h = first
at_each_place P n first later (suc k) h = later k (omega arith)

-- Where P holds of the first place, the search over the later ones tells of all.
pub found_later :
    (P : ℕ → Type 0) (n start : ℕ) → P 0 → (o : Option ℕ) → Found (λ k. P (suc k)) n (start + 1) o → Found P (suc n) start o
found_later P n start first None all = at_each_place P n first all
found_later P n start first (Some found) (place, is, within, before, wrong) =
    (suc place, omega arith, omega arith, at_each_place P place first before, wrong)

-- Where it does not, the first place is the one.
pub found_first : (P : ℕ → Type 0) (n start : ℕ) → (P 0 → ⊥) → Found P (suc n) start (Some start)
found_first P n start wrong = (0, omega arith, omega arith, λ k h. absurd (omega arith), wrong)
