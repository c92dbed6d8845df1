-- What a list of rates must be to make a rate table.
use Rattle.std.specs.Prelude.{ℕ, ◌+◌, ◌-◌, ◌<◌, ◌≤◌, List, length, slice_index, slice_index_or}

-- Every rate is at least 1.
abbrev pub Positive : List ℕ → Type 0
Positive rates = (k : ℕ) → k < length rates → 1 ≤ slice_index rates k

-- No rate is over 4,095.
abbrev pub Limited : List ℕ → Type 0
Limited rates = (k : ℕ) → k < length rates → slice_index rates k ≤ 4095

-- Each rate is above the one before it.
abbrev pub Rising : List ℕ → Type 0
Rising rates = (k : ℕ) → k + 1 < length rates → slice_index rates k < slice_index rates (k + 1)

-- A lawful table: 1 to 16 levels, each rate 1 to 4,095 and above the one before it.
pub record Lawful (rates : List ℕ) : Type 0 where
  pub some : 1 ≤ length rates
  pub few : length rates ≤ 16
  pub positive : Positive rates
  pub limited : Limited rates
  pub rising : Rising rates

-- The rate at a place, from 0, is 1 to 4,095 and above the one before it, where one is before it.
pub record Good (rates : List ℕ) (place : ℕ) : Type 0 where
  pub positive : 1 ≤ slice_index rates place
  pub limited : slice_index_or rates place 0 ≤ 4095
  pub above : 1 ≤ place → slice_index rates (place - 1) < slice_index rates place
