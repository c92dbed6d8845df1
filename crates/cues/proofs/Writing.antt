-- The pass that writes the candidates from a start: each turn adds one budget to the sum and gives one candidate.
use Rattle.std.proofs.Common.{◌≡◌, ℕ, zero, suc, ◌+◌, ◌-◌, ◌*◌, ◌%◌, ◌^◌, ◌<◌, ◌≤◌, cond, leb, List, [], ◌∷◌, length, get_or, take, drop, sum_by, refl, ap, ◌∙◌, mul-zero, arith}
use Rattle.std.specs.List.{scan}
use Rattle.std.proofs.ByRecursion.{all_from_every, sum_by_le}
use Rattle.std.proofs.lemmas.List.{get_or-take, get_or-drop, length-take-le, length-drop, take-take, drop-take}
use Rattle.std.proofs.lemmas.List.Sums.{sum_by-cons, sum_by-take-drop}
use Rattle.std.proofs.lemmas.Bool.Decides.{nat_tests}
use Rattle.cues.specs.declared.cue.Cue.{Cue}
use Rattle.cues.specs.declared.load.Load.{Load}
use Rattle.cues.specs.Candidates.{share, DueAfter, Written}

module _ (start : ℕ) where
  -- the sum after a cue, wrapped as a word is
  abbrev pub sum_after : ℕ → Cue → ℕ
  sum_after sum cue = cond (leb start cue.release) ((sum + cue.budget) % 2 ^ 32) sum

  -- the length up to the deadline of a cue, wrapped likewise
  abbrev span-to : Cue → ℕ
  span-to cue = (cue.deadline + (2 ^ 32 - start)) % 2 ^ 32

  -- the candidate that ends at the deadline of a cue, where the cues before it sum to this
  abbrev pub ending_at : ℕ → Cue → Load
  ending_at sum cue = record { demand = sum_after sum cue; length = (cue.deadline + (2 ^ 32 - start)) % 2 ^ 32; start = start; end = cue.deadline }

  span-to-is : (cue : Cue) → start < cue.deadline → span-to cue ≡ cue.deadline - start
  span-to-is cue past = let soon = cue.in_time in omega arith

  sums : (sum : ℕ) (cue : Cue) → sum + 65535 < 2 ^ 32 → sum_after sum cue ≡ sum + share start cue
  sums sum cue small = let little = cue.little_work in grind (arith, nat_tests)

  share-small : (cue : Cue) → share start cue ≤ 65535
  share-small cue = let little = cue.little_work in grind (arith, nat_tests)

  length-written : (cues : List Cue) (sum : ℕ) → length (scan sum_after ending_at sum cues) ≡ length cues
  length-written [] sum = refl
  length-written (c ∷ cues) sum = ap suc (length-written cues (sum_after sum c))

  written-at : (cues : List Cue) (sum k : ℕ) (d : Cue) (e : Load) → sum + 65535 * length cues < 2 ^ 32 → k < length cues
      → get_or (scan sum_after ending_at sum cues) k e
      ≡ record { demand = sum + sum_by (share start) (take (suc k) cues); length = span-to (get_or cues k d); start = start; end = (get_or cues k d).deadline }
  written-at [] sum k d e small lt = absurd (omega arith)
  written-at (c ∷ cues) sum zero d e small lt =
      let first = sums sum c (omega arith) in
      let one : sum_after sum c ≡ sum + sum_by (share start) (c ∷ []) = omega (arith, sum_by-cons (share start) c []) in
      ap (λ n. record { demand = n; length = span-to c; start = start; end = c.deadline }) one
  written-at (c ∷ cues) sum (suc k) d e small lt =
      let first = sums sum c (omega arith) in
      let little = share-small c in
      let rest = written-at cues (sum_after sum c) k d e (omega arith) (omega arith) in
      let all : sum_after sum c + sum_by (share start) (take (suc k) cues) ≡ sum + sum_by (share start) (c ∷ take (suc k) cues) =
      omega (arith, sum_by-cons (share start) c (take (suc k) cues)) in
      rest ∙ ap (λ n. record { demand = n; length = span-to (get_or cues k d); start = start; end = (get_or cues k d).deadline }) all

  -- no cue that is due by the start is released after it
  share-over : (cue : Cue) → cue.deadline ≤ start → share start cue ≡ 0
  share-over cue over = let rising = cue.rising in grind (arith, nat_tests)

  module _ (dues : List Cue) (late : ℕ) (after : DueAfter start dues late) where
    early-none : sum_by (share start) (take late dues) ≡ 0
    early-none =
        let long = length-take-le late dues after.within in
        let none = sum_by_le (share start) 0 (take late dues)
        (all_from_every (λ x. share start x ≤ 0) (take late dues)
        (λ i d from below.
        let early : i < late = omega arith in
        let zero_is = share-over (get_or dues i d) (after.over i d early) in
        rw (get_or-take late dues i d early) (omega arith))) in
        omega (arith, mul-zero (length (take late dues)))

    -- the sums from the first later cue on are those from the first of all
    later-sum : (k : ℕ) → sum_by (share start) (take (suc k) (drop late dues)) ≡ sum_by (share start) (take (late + k + 1) dues)
    later-sum k =
        let upto : late + suc k ≡ late + k + 1 = omega arith in
        let split = sum_by-take-drop (share start) (take (late + suc k) dues) late in
        let both : sum_by (share start) (take late dues) + sum_by (share start) (take (suc k) (drop late dues)) ≡ sum_by (share start) (take (late + suc k) dues) =
        rw (take-take late (late + suc k) dues (omega arith), drop-take late (suc k) dues) at split in
        rw (← upto) (omega (arith, early-none))

    pub all-written : (candidates : List Load) → length dues ≤ 1024 → candidates ≡ scan sum_after ending_at 0 (drop late dues) → Written start dues candidates
    all-written candidates few is =
        let many : length candidates ≡ length (drop late dues) = ap length is ∙ length-written (drop late dues) 0 in
        let long = length-drop late dues in
        let within = after.within in
        record {
          late = late;
          after = after;
          many = omega arith;
          each = λ k d e lt.
              ap (λ xs. get_or xs k e) is
              ∙ written-at (drop late dues) 0 k d e (omega arith) (omega arith)
              ∙ ap (λ c. record { demand = 0 + sum_by (share start) (take (suc k) (drop late dues)); length = span-to c; start = start; end = c.deadline }) (get_or-drop late dues k d)
              ∙ ap (λ n. record { demand = 0 + sum_by (share start) (take (suc k) (drop late dues)); length = n; start = start; end = (get_or dues (late + k) d).deadline })
              (span-to-is (get_or dues (late + k) d) (after.ahead (late + k) d (omega arith) (omega arith)))
              ∙ ap (λ n. record { demand = n; length = (get_or dues (late + k) d).deadline - start; start = start; end = (get_or dues (late + k) d).deadline })
              (let whole = later-sum k in omega arith);
        }
