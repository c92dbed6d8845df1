-- The candidates for the greatest share: from a release to the deadline of each cue, the cues in the order of their deadlines.
use Rattle.std.specs.Prelude.{◌≡◌, ℕ, ◌+◌, ◌-◌, ◌<◌, ◌≤◌, false, cond, ◌⊎◌, List, length, get_or, take, sum_by, nat_le, slice_index_or}
use Rattle.std.specs.List.Sorted.{IsPermutation, IsNonDecreasingBy}
use Rattle.ordering.specs.First.{First}
use Rattle.cues.specs.declared.cue.Cue.{Cue}
use Rattle.cues.specs.declared.load.Load.{Load}
use Rattle.cues.specs.Orders.{candidate_before, candidate_equal}

-- The budget of a cue that is released at the start or later.
abbrev pub share : ℕ → Cue → ℕ
share start due = cond (nat_le start due.release) due.budget 0

-- From the start to the deadline of the cue at a place, with the budgets of the cues up to that place.
abbrev pub candidate_at : ℕ → List Cue → ℕ → Cue → Load
candidate_at start dues place d =
    record {
      demand = sum_by (share start) (take (place + 1) dues);
      length = (get_or dues place d).deadline - start;
      start = start;
      end = (get_or dues place d).deadline;
    }

-- These are the cues, and their deadlines rise.
pub record ByDeadline (cues : List Cue) (dues : List Cue) : Type 0 where
  pub same : IsPermutation cues dues
  pub rising : IsNonDecreasingBy (λ due. due.deadline) dues

-- The cues from a place on are those due after the start.
pub record DueAfter (start : ℕ) (dues : List Cue) (late : ℕ) : Type 0 where
  pub within : late ≤ length dues
  pub over : (k : ℕ) (d : Cue) → k < late → (get_or dues k d).deadline ≤ start
  pub ahead : (k : ℕ) (d : Cue) → late ≤ k → k < length dues → start < (get_or dues k d).deadline

-- Some cue is due after the start.
abbrev pub DueLater : ℕ → List Cue → Type 0
DueLater start dues = (k : ℕ) × (d : Cue) × (k < length dues) × (start < (get_or dues k d).deadline)

-- The candidates from the start to each deadline from a place on, all of them and in their order.
pub record Written (start : ℕ) (dues : List Cue) (candidates : List Load) : Type 0 where
  pub late : ℕ
  pub after : DueAfter start dues late
  pub many : late + length candidates ≡ length dues
  pub each : (k : ℕ) (d : Cue) (e : Load) → k < length candidates → slice_index_or candidates k e ≡ candidate_at start dues (late + k) d

-- One of the candidates from the start to a later deadline, and none of them is before it.
pub record BestFrom (start : ℕ) (dues : List Cue) (best : Load) : Type 0 where
  pub among : (place : ℕ) × (place < length dues) × ((d : Cue) → best ≡ candidate_at start dues place d)
  pub unbeaten : (place : ℕ) (d : Cue) → place < length dues → start < (get_or dues place d).deadline → candidate_before (candidate_at start dues place d) best ≡ false

-- The best candidate from the release of each cue, in the order of the cues.
pub record Bests (cues : List Cue) (dues : List Cue) (bests : List Load) : Type 0 where
  pub many : length bests ≡ length cues
  pub each : (k : ℕ) (c : Cue) (e : Load) → k < length cues → BestFrom (get_or cues k c).release dues (slice_index_or bests k e)

-- The four numbers of the first candidate, and (0, 1, 0, 1) where there is none.
abbrev pub FirstOfBests : List Load → ℕ × ℕ × ℕ × ℕ → Type 0
FirstOfBests bests r =
    ((length bests ≡ 0) × (r ≡ (0, 1, 0, 1)))
    ⊎ ((place : ℕ) × First candidate_before candidate_equal bests place
    × ((e : Load) → r ≡ ((get_or bests place e).demand, (get_or bests place e).length, (get_or bests place e).start, (get_or bests place e).end)))
