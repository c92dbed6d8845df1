-- Sums over the cues in the order of their deadlines: the budgets up to the last of those due at b are the demand of an interval that ends at b.
use Rattle.std.proofs.Common.{◌≡◌, ℕ, zero, suc, ◌+◌, ◌-◌, ◌<◌, ◌≤◌, cond, List, [], ◌∷◌, length, get_or, take, drop, sum_by, sym, refl, ap, ◌∙◌, ⊎_elim, mul-zero, arith}
use Rattle.std.proofs.ByRecursion.{All-from_get_or, sum_by_le}
use Rattle.std.proofs.lemmas.List.{get_or-take, get_or-drop, length-take, length-drop}
use Rattle.std.proofs.lemmas.List.Sorted.{sum_by-IsPermutation}
use Rattle.std.proofs.lemmas.List.Sums.{sum_by-cons, sum_by-take-drop}
use Rattle.std.proofs.lemmas.Bool.{cases_eq}
use Rattle.std.proofs.lemmas.Bool.Decides.{nat_tests}
use Rattle.cues.specs.declared.cue.Cue.{Cue}
use Rattle.cues.specs.Candidates.{share, ByDeadline}
use Rattle.cues.specs.Cues.{job_of, jobs_of}
use Rattle.cues.specs.Demand.{inside, demand}

-- The budget that a cue brings to [a, b).
abbrev weight : ℕ → ℕ → Cue → ℕ
weight a b due = cond (inside a b (job_of due)) due.budget 0

sums_alike : {X : Type 0} (f g : X → ℕ) (xs : List X) (d : X) → ((k : ℕ) → k < length xs → f (get_or xs k d) ≡ g (get_or xs k d)) → sum_by f xs ≡ sum_by g xs
sums_alike f g [] d same = refl
sums_alike f g (x ∷ xs) d same =
    let here : f x ≡ g x = same 0 (omega arith) in
    let rest = sums_alike f g xs d (λ k lt. same (suc k) (omega arith)) in
    let one = sum_by-cons f x xs in
    let other = sum_by-cons g x xs in
    omega arith

demand-sum : (cues : List Cue) (a b : ℕ) → demand (jobs_of cues) a b ≡ sum_by (weight a b) cues
demand-sum [] a b = refl
demand-sum (c ∷ cues) a b = ap (λ n. weight a b c + n) (demand-sum cues a b) ∙ sym (sum_by-cons (weight a b) c cues)

module _ (cues : List Cue) (dues : List Cue) (sorted : ByDeadline cues dues) (d : Cue) where
  abbrev pub deadline-at : ℕ → ℕ
  deadline-at k = (get_or dues k d).deadline

  demand-is : (a b : ℕ) → demand (jobs_of cues) a b ≡ sum_by (weight a b) dues
  demand-is a b = demand-sum cues a b ∙ sym (sum_by-IsPermutation (weight a b) cues dues sorted.same)

  -- up to a place, every cue that is released in time is due by then
  front : (a k : ℕ) → k < length dues → sum_by (share a) (take (k + 1) dues) ≡ sum_by (weight a (deadline-at k)) (take (k + 1) dues)
  front a k lt =
      sums_alike (share a) (weight a (deadline-at k)) (take (k + 1) dues) d
      (λ i below.
      let among : i < k + 1 = omega (arith, length-take (k + 1) dues) in
      let early : (get_or dues i d).deadline ≤ deadline-at k = sorted.rising i k d (omega arith) lt in
      rw (get_or-take (k + 1) dues i d among) (grind (arith, nat_tests)))

  pub front-short : (a k : ℕ) → k < length dues → sum_by (share a) (take (k + 1) dues) ≤ demand (jobs_of cues) a (deadline-at k)
  front-short a k lt = omega (arith, front a k lt, demand-is a (deadline-at k), sum_by-take-drop (weight a (deadline-at k)) dues (k + 1))

  -- past the last of those due at b, no cue is due by b
  back_none : (a b k : ℕ) → ((i : ℕ) → k < i → i < length dues → b < deadline-at i) → sum_by (weight a b) (drop (k + 1) dues) ≡ 0
  back_none a b k last =
      let least = sum_by_le (weight a b) 0 (drop (k + 1) dues)
      (All-from_get_or (λ x. weight a b x ≤ 0) (drop (k + 1) dues) d
      (λ i below.
      let late : b < deadline-at (k + 1 + i) = last (k + 1 + i) (omega arith) (omega (arith, length-drop (k + 1) dues)) in
      rw (get_or-drop (k + 1) dues i d) (grind (arith, nat_tests)))) in
      omega (arith, mul-zero (length (drop (k + 1) dues)))

  -- the last place of those due as the one at k
  last-due : (fuel k : ℕ) → k + suc fuel ≡ length dues → (m : ℕ) × (m < length dues) × (deadline-at m ≡ deadline-at k) × ((i : ℕ) → m < i → i < length dues → deadline-at k < deadline-at i)
  last-due zero k end = (k, omega arith, refl, λ i past within. omega arith)
  last-due (suc fuel) k end =
      ⊎_elim
      (λ (same : deadline-at (k + 1) ≡ deadline-at k).
      let rest = last-due fuel (k + 1) (omega arith) in
      (rest.0, rest.1, rest.2 ∙ same, λ i past within. let more = rest.3 i past within in omega arith))
      (λ (apart : deadline-at (k + 1) ≡ deadline-at k → ⊥). (
        k,
        omega arith,
        refl,
        λ i past within.
            let next : deadline-at k ≤ deadline-at (k + 1) = sorted.rising k (k + 1) d (omega arith) (omega arith) in
            let onward : deadline-at (k + 1) ≤ deadline-at i = sorted.rising (k + 1) i d (omega arith) within in
            omega arith,
      ))
      (cases_eq (deadline-at (k + 1)) (deadline-at k))

  -- at some place the sum is the demand up to that deadline
  pub front-full : (a k : ℕ) → k < length dues → (m : ℕ) × (m < length dues) × (deadline-at m ≡ deadline-at k) × (sum_by (share a) (take (m + 1) dues) ≡ demand (jobs_of cues) a (deadline-at k))
  front-full a k lt =
      let found = last-due (length dues - (k + 1)) k (omega arith) in
      let m = found.0 in
      let same : deadline-at m ≡ deadline-at k = found.2 in
      let upto = rw same at (front a m found.1) in
      let none = back_none a (deadline-at k) m found.3 in
      (m, found.1, same, omega (arith, upto, none, demand-is a (deadline-at k), sum_by-take-drop (weight a (deadline-at k)) dues (m + 1)))
