-- The first of the best candidates from each release is the loading factor.
use Rattle.std.proofs.Common.{◌≡◌, ℕ, ◌<◌, ◌≤◌, false, List, [], ◌∷◌, length, get_or, sym, ap, ◌∙◌, subst, ⊎_elim, arith}
use Rattle.std.proofs.ByRecursion.{has_get_or, has_shuffled}
use Rattle.std.proofs.lemmas.List.{get_or-map, length-map}
use Rattle.std.proofs.lemmas.List.Sorted.{IsPermutation-sym}
use Rattle.ordering.specs.First.{First}
use Rattle.ordering.proofs.Lawful.{order-ranks}
use Rattle.cues.specs.declared.load.Load.{Load}
use Rattle.cues.specs.declared.cue.Cue.{Cue}
use Rattle.cues.specs.Candidates.{candidate_at, ByDeadline, Bests, FirstOfBests}
use Rattle.cues.specs.Cues.{job_of, jobs_of}
use Rattle.cues.specs.Demand.{Job, demand}
use Rattle.cues.specs.Loading.{SomeJob, Greatest, Loading}
use Rattle.cues.specs.Orders.{candidate_before, candidate_equal}
use Rattle.cues.specs.CandidateOrder.{candidate_lawful}
use Rattle.cues.proofs.Deadlines.{deadline-at, front-short, front-full}
use Rattle.cues.proofs.Greatest.{interval, greatest-from-unbeaten}
use Rattle.cues.proofs.Intervals.{Timely}

-- Every cue has time, and takes some.
timely : (cues : List Cue) → Timely (jobs_of cues)
timely [] = tt
timely (c ∷ cues) = ((c.rising, c.some_work), timely cues)

module _ (first : Cue) (others : List Cue) where
  abbrev cues : List Cue
  cues = first ∷ others

  abbrev d : Cue
  d = first

  -- the job at a place is that of the cue there
  job-at : (k : ℕ) (j : Job) → k < length cues → get_or (jobs_of cues) k j ≡ job_of (get_or cues k first)
  job-at k j lt = get_or-map job_of cues k first j lt

  module _ (dues : List Cue) (sorted : ByDeadline cues dues) where
    -- each deadline has its place in the order of deadlines
    due-place : (y : ℕ) → SomeJob (λ j. j.deadline ≡ y) (jobs_of cues) → (k : ℕ) × (k < length dues) × (deadline-at cues dues sorted d k ≡ y)
    due-place y found =
        let k = found.0 in
        let inside : k < length cues = omega (arith, found.1, length-map cues job_of) in
        let there = has_shuffled cues dues (get_or cues k d) sorted.same (has_get_or cues k d inside) in (
          there.0,
          there.1,
          ap (λ x. x.deadline) (there.2 d)
              ∙ sym (ap (λ j. j.deadline) (job-at k (job_of first) inside))
              ∙ found.2 (job_of first),
        )

    -- and each place there a job with its deadline
    due-job : (k : ℕ) → k < length dues → SomeJob (λ j. j.deadline ≡ deadline-at cues dues sorted d k) (jobs_of cues)
    due-job k lt =
        let back = has_shuffled dues cues (get_or dues k d) (IsPermutation-sym cues dues sorted.same) (has_get_or dues k d lt) in (
          back.0,
          omega (arith, back.1, length-map cues job_of),
          λ j. ap (λ j. j.deadline) (job-at back.0 j back.1) ∙ ap (λ x. x.deadline) (back.2 d),
        )

    module _ (bests : List Load) (kept : Bests cues dues bests) (place : ℕ) (is-first : First candidate_before candidate_equal bests place) where
      abbrev none : Load
      none = record { demand = 0; length = 0; start = 0; end = 0 }

      abbrev best : Load
      best = get_or bests place none

      -- no candidate from any release is before it
      unbeaten-at : (i k : ℕ) → i < length cues → k < length dues → (get_or cues i first).release < deadline-at cues dues sorted d k → candidate_before (candidate_at (get_or cues i first).release dues k d) best ≡ false
      unbeaten-at i k li lk ahead =
          (order-ranks candidate_lawful).chain (candidate_at (get_or cues i first).release dues k d) (get_or bests i none) best
          ((kept.each i first none li).unbeaten k d lk ahead)
          (is-first.unbeaten i none (omega (arith, kept.many)))

      unbeaten : (x y : ℕ) → x < y → SomeJob (λ j. j.release ≡ x) (jobs_of cues) → SomeJob (λ j. j.deadline ≡ y) (jobs_of cues) → candidate_before (interval (jobs_of cues) x y) best ≡ false
      unbeaten x y lt starts ends =
          let i = starts.0 in
          let li : i < length cues = omega (arith, starts.1, length-map cues job_of) in
          let release : (get_or cues i first).release ≡ x = sym (ap (λ j. j.release) (job-at i (job_of first) li)) ∙ starts.2 (job_of first) in
          let due = due-place y ends in
          let full = front-full cues dues sorted d x due.0 due.1 in
          let end : deadline-at cues dues sorted d full.0 ≡ y = full.2 ∙ due.2 in
          let all = full.3 ∙ ap (demand (jobs_of cues) x) due.2 in
          let is : candidate_at x dues full.0 d ≡ interval (jobs_of cues) x y = cc in
          subst (λ c. candidate_before c best ≡ false) is
          (subst (λ r. candidate_before (candidate_at r dues full.0 d) best ≡ false) release (unbeaten-at i full.0 li full.1 (omega arith)))

      pub first-is-greatest : Greatest (jobs_of cues) best.demand best.length best.start best.end
      first-is-greatest =
          let inside : place < length cues = omega (arith, is-first.within, kept.many) in
          let among = (kept.each place first none inside).among in
          let m = among.0 in
          let is = among.2 d in
          let start_is = ap (λ c. c.start) is in
          let end_is = ap (λ c. c.end) is in
          let length-is = ap (λ c. c.length) is in
          let demand-is = ap (λ c. c.demand) is in
          let starts : SomeJob (λ j. j.release ≡ best.start) (jobs_of cues) =
          (place, omega (arith, length-map cues job_of), λ j. ap (λ j. j.release) (job-at place j inside) ∙ sym start_is) in
          let due = due-job m among.1 in
          let ends : SomeJob (λ j. j.deadline ≡ best.end) (jobs_of cues) = (due.0, due.1, λ j. due.2 j ∙ sym end_is) in
          let short : best.demand ≤ demand (jobs_of cues) best.start best.end =
          rw (start_is, end_is) (omega (arith, demand-is, front-short cues dues sorted d (get_or cues place first).release m among.1)) in
          greatest-from-unbeaten (job_of first) (jobs_of others) (timely cues) best starts ends (omega (arith, length-is, start_is, end_is)) short unbeaten

pub loading_from_bests : (cues : List Cue) (dues : List Cue) (bests : List Load) (r : ℕ × ℕ × ℕ × ℕ)
    → ByDeadline cues dues → Bests cues dues bests → FirstOfBests bests r → Loading (jobs_of cues) r.0 r.1 r.2 r.3
loading_from_bests [] dues bests r sorted kept answer =
    ⊎_elim
    (λ none. (ap (λ t. t.0) none.1, ap (λ t. t.1) none.1, ap (λ t. t.2) none.1, ap (λ t. t.3) none.1))
    (λ some. absurd (omega (arith, some.1.within, kept.many)))
    answer
loading_from_bests (c ∷ cues) dues bests r sorted kept answer =
    ⊎_elim
    (λ none. absurd (omega (arith, none.0, kept.many)))
    (λ some.
    subst (λ t. Greatest (jobs_of (c ∷ cues)) t.0 t.1 t.2 t.3) (sym (some.2 record { demand = 0; length = 0; start = 0; end = 0 }))
    (first-is-greatest c cues dues sorted bests kept some.0 some.1))
    answer
