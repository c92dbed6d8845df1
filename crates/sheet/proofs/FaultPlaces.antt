-- A fault stands at one of the words, or behind the last where they end early.
use Rattle.std.proofs.Common.{◌≡◌, ℕ, ◌+◌, ◌-◌, ◌≤◌, cond, eqb, ltb, List, [], ◌∷◌, ◌++◌, length, Some, None, Ok, Err, Option, Result, refl, subst, arith}
use Rattle.std.proofs.lemmas.Bool.{cond_both}
use Rattle.words.specs.declared.Kind.TheVariants.{Release, Deadline, Budget, Spent, End}
use Rattle.words.specs.Words.{is, payload}
use Rattle.words.specs.declared.fault.WordFault.{WordFault}
use Rattle.heading.specs.Heading.{Front, head}
use Rattle.heading.proofs.Fronts.{head-counts}
use Rattle.rates.specs.declared.refusal.TableRefusal.{TableRefusal}
use Rattle.rates.specs.Judged.{judged}
use Rattle.cues.specs.declared.refusal.CueRefusal.{CueRefusal}
use Rattle.cues.specs.Cues.{cue_refusal}
use Rattle.faults.specs.declared.CueFault.TheVariants.{Refused}
use Rattle.faults.specs.declared.SheetFault.TheVariants.{BadCue, BadTable, TooManyCues}
use Rattle.faults.specs.declared.ReadError.{ReadError}
use Rattle.faults.specs.declared.ReadError.TheVariants.{Fault, NoMemory}
use Rattle.sheet.specs.declared.read.ReadSheet.{ReadSheet}
use Rattle.faults.specs.Fault.{fault_place}
use Rattle.sheet.specs.Reading.{Entry, Contents, Reading, Part, none, released, due, budgeted, ended, cues_from, cue_taken, table_judged, behind_head, reading}
use Rattle.sheet.specs.Sheets.{ReadAs, Placed}

-- A fault, if there is one, stands at this place at the latest.
abbrev Upto : ℕ → Reading → Type 0
Upto n (Ok c) = Unit {0}
Upto n (Err f) = fault_place f ≤ n

next : (place w : ℕ) (ws : List ℕ) (r : Reading) → Upto (place + 1 + length ws) r → Upto (place + length (w ∷ ws)) r
next place w ws r h = let same : place + 1 + length ws ≡ place + length (w ∷ ws) = omega arith in subst (λ n. Upto n r) same h

end_upto : (place : ℕ) (c : Contents) (w : ℕ) (ws : List ℕ) → Upto (place + length (w ∷ ws)) (ended place c w ws)
end_upto place c w [] = cond_both (eqb (payload w) (length c.entries)) _ _ (Upto (place + length (w ∷ []))) (λ _. tt) (λ _. omega arith)
end_upto place c w (v ∷ vs) =
    cond_both (eqb (payload w) (length c.entries)) _ _ (Upto (place + length (w ∷ (v ∷ vs)))) (λ _. omega arith) (λ _. omega arith)

taken_upto : (n first : ℕ) (before : List Entry) (e : Entry) (taken : Reading) → first ≤ n → Upto n taken → Upto n (cue_taken first before e taken)
taken_upto n first before e taken early later = by-refusal (cue_refusal e.release e.deadline e.budget)
  where
    by-refusal : (o : Option CueRefusal) → Upto n (elim o [ Some refusal ↦ Err (BadCue first (Refused refusal)) | None ↦ cond (ltb (length before) 1024) taken (Err (TooManyCues first)) ])
    by-refusal (Some refusal) = early
    by-refusal None = cond_both (ltb (length before) 1024) taken (Err (TooManyCues first)) (Upto n) (λ _. later) (λ _. early)

cues_upto : (place : ℕ) (rates : List ℕ) (before : List Entry) (part : Part) (ws : List ℕ) → Upto (place + length ws) (cues_from place rates before part ws)
cues_upto place rates before part [] = omega arith
cues_upto place rates before none (w ∷ ws) =
    cond_both (is End w) _ _ (Upto (place + length (w ∷ ws))) (λ _. end_upto place _ w ws)
    (λ _. cond_both (is Release w) _ _ (Upto (place + length (w ∷ ws))) (λ _. next place w ws _ (cues_upto (place + 1) rates before (released (payload w)) ws)) (λ _. omega arith))
cues_upto place rates before (released r) (w ∷ ws) =
    cond_both (is Deadline w) _ _ (Upto (place + length (w ∷ ws))) (λ _. next place w ws _ (cues_upto (place + 1) rates before (due r (payload w)) ws)) (λ _. omega arith)
cues_upto place rates before (due r d) (w ∷ ws) =
    cond_both (is Budget w) _ _ (Upto (place + length (w ∷ ws))) (λ _. next place w ws _ (cues_upto (place + 1) rates before (budgeted r d (payload w)) ws)) (λ _. omega arith)
cues_upto place rates before (budgeted r d b) (w ∷ ws) =
    let e : Entry = record { release = r; deadline = d; budget = b; actual = payload w } in
    cond_both (is Spent w) _ _ (Upto (place + length (w ∷ ws)))
    (λ _. taken_upto (place + length (w ∷ ws)) (place - 3) before e _ (omega arith) (next place w ws _ (cues_upto (place + 1) rates (before ++ (e ∷ [])) none ws)))
    (λ _. omega arith)

judged-upto : (place : ℕ) (rates ws : List ℕ) → 1 ≤ place → Upto (place + length ws) (table_judged place rates ws)
judged-upto place rates [] from_one = omega arith
judged-upto place rates (w ∷ ws) from_one = by-verdict (judged rates)
  where
    by-verdict : (o : Option TableRefusal) → Upto (place + length (w ∷ ws)) (elim o [ Some refusal ↦ Err (BadTable refusal) | None ↦ cues_from place rates [] none (w ∷ ws) ])
    by-verdict (Some refusal) = omega arith
    by-verdict None = cues_upto place rates [] none (w ∷ ws)

reading-upto : (words : List ℕ) → Upto (length words) (reading words)
reading-upto words = by-head (head words) refl
  where
    by-head : (r : Result Front WordFault) → head words ≡ r → Upto (length words) (behind_head r)
    by-head (Ok front) same = subst (λ n. Upto n (behind_head (Ok front))) (head-counts words front same) (judged-upto (1 + length front.rates) front.rates front.rest (omega arith))
    by-head (Err fault) same = omega arith

pub placed_by_answer : (words : List ℕ) (r : Result ReadSheet ReadError) → ReadAs words r → Placed words r
placed_by_answer words (Ok sheet) h = tt
placed_by_answer words (Err (Fault f)) h = subst (Upto (length words)) h (reading-upto words)
placed_by_answer words (Err NoMemory) h = tt
