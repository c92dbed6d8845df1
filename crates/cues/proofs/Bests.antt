-- The pass that keeps the best candidate from each release: what it finds for one, and one turn of it.
use Rattle.std.proofs.Common.{◌≡◌, ℕ, ◌+◌, ◌-◌, ◌<◌, ◌≤◌, List, [], ◌∷◌, ◌++◌, length, get_or, take, sym, ap, ◌∙◌, subst, ⊎_elim, arith}
use Rattle.std.proofs.ByRecursion.{has_get_or, has_shuffled}
use Rattle.std.proofs.lemmas.List.{get_or-take, get_or_append_left, get_or_push, length_push, length-take-le, get_or_read}
use Rattle.std.proofs.lemmas.Bool.{cases_lt}
use Rattle.ordering.specs.First.{First}
use Rattle.cues.specs.declared.load.Load.{Load}
use Rattle.cues.specs.declared.cue.Cue.{Cue}
use Rattle.cues.specs.Candidates.{candidate_at, ByDeadline, DueLater, Written, BestFrom, Bests}
use Rattle.cues.specs.Orders.{candidate_before, candidate_equal}

-- The first of the candidates that are written is the best.
pub best_from_first : (start : ℕ) (dues : List Cue) (candidates : List Load) (place : ℕ) (e : Load) → Written start dues candidates
    → First candidate_before candidate_equal candidates place → BestFrom start dues (get_or candidates place e)
best_from_first start dues candidates place e written first =
    let late = written.late in
    record {
      among = (late + place, omega (arith, first.within, written.many), λ d. written.each place d e first.within);
      unbeaten = λ k d lt ahead.
          let from : late ≤ k = ⊎_elim (λ (early : k < late). absurd (omega (arith, written.after.over k d early))) (λ p. p) (cases_lt k late) in
          let there : get_or candidates (k - late) e ≡ candidate_at start dues k d =
          written.each (k - late) d e (omega (arith, written.many)) ∙ ap (λ n. candidate_at start dues n d) (omega arith) in
          ap (λ x. candidate_before x (get_or candidates place e)) (sym there) ∙ first.unbeaten (k - late) e (omega (arith, written.many));
    }

-- Each cue is itself due after its release.
pub due-after_release : (cues : List Cue) (dues : List Cue) (i : ℕ) (cue : Cue) → ByDeadline cues dues → i < length cues → cue ≡ get_or cues i cue → DueLater cue.release dues
due-after_release cues dues i cue sorted lt is =
    let there = has_shuffled cues dues (get_or cues i cue) sorted.same (has_get_or cues i cue lt) in
    let same : get_or dues there.0 cue ≡ cue = there.2 cue ∙ sym is in
    (there.0, cue, there.1, subst (λ x. cue.release < x.deadline) (sym same) cue.rising)

module _ (cues : List Cue) (dues : List Cue) (bests : List Load) (i : ℕ) (inside : i < length cues) (so_far : Bests (take i cues) dues bests) where
  long : length bests ≡ i
  long = so_far.many ∙ length-take-le i cues (omega arith)

  pub bests-more : (cue : Cue) (best : Load) → cue ≡ get_or cues i cue → BestFrom cue.release dues best → Bests (take (i + 1) cues) dues (bests ++ best ∷ [])
  bests-more cue best is found =
      let upto = length-take-le (i + 1) cues (omega arith) in
      let pushed = length_push bests best in
      let many = long in
      record {
        many = omega arith;
        each = λ k c e lt.
            let below : k < i + 1 = omega arith in
            subst (λ x. BestFrom x.release dues (get_or (bests ++ best ∷ []) k e)) (sym (get_or-take (i + 1) cues k c below))
            (⊎_elim
            (λ (l : k < i).
            let old : k < length (take i cues) = omega (arith, length-take-le i cues (omega arith)) in
            let kept : get_or (bests ++ best ∷ []) k e ≡ get_or bests k e = get_or_append_left bests (best ∷ []) e k (omega arith) in
            subst (λ y. BestFrom (get_or cues k c).release dues y) (sym kept)
            (subst (λ x. BestFrom x.release dues (get_or bests k e)) (get_or-take i cues k c l) (so_far.each k c e old)))
            (λ l.
            let last : k ≡ i = omega arith in
            subst (λ j. BestFrom (get_or cues j c).release dues (get_or (bests ++ best ∷ []) j e)) (sym last)
            (subst (λ y. BestFrom (get_or cues i c).release dues y) (sym (get_or_push bests best e i many))
            (subst (λ x. BestFrom x.release dues best) (get_or_read cues i cue inside is c) found)))
            (cases_lt k i));
      }
