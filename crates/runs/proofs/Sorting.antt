-- The jobs in order of acceptance, sorted by priority: what sorting commutes with, and what it keeps.
use Rattle.std.proofs.Common.{◌≡◌, ℕ, ◌+◌, ◌<◌, ◌≤◌, Bool, true, false, cond, ◌&&◌, eqb, leb, List, [], ◌∷◌, ◌++◌, map, Some, None, Option, sym, refl, ap, ◌∙◌, arith}
use Rattle.std.specs.List.{AllByRecursion}
use Rattle.std.proofs.lemmas.Bool.Decides.{nat_tests}
use Rattle.runs.specs.ReferenceRun.{sooner}
use Rattle.runs.specs.SlowRun.{Stage, SlowRow, earlier, first}
use Rattle.runs.proofs.SortedRun.{Both, row, due, slow_row, insert, others, yields, Ahead, Sorted}

-- A job goes in front of everything due no earlier: those that were accepted before it are placed after it.
abbrev pub place : Both → List Both → List Both
place x [] = x ∷ []
place x (y ∷ ys) = cond (leb (due x) (due y)) (x ∷ y ∷ ys) (y ∷ place x ys)

abbrev pub sorted : List Both → List Both
sorted [] = []
sorted (x ∷ xs) = place x (sorted xs)

-- Sorting an arrival in.
place-insert : (a x : Both) (l : List Both) → place a (insert x l) ≡ insert x (place a l)
place-insert a x [] = refl
place-insert a x (y ∷ ys) = grind (arith, nat_tests, place-insert a x ys)

pub sorted-push : (xs : List Both) (x : Both) → sorted (xs ++ x ∷ []) ≡ insert x (sorted xs)
sorted-push [] x = refl
sorted-push (a ∷ xs) x = ap (place a) (sorted-push xs x) ∙ place-insert a x (sorted xs)

-- What is sorted is sorted.
ahead_trans : (d d' : ℕ) (l : List Both) → d ≤ d' → Ahead d' l → Ahead d l
ahead_trans d d' [] h a = tt
ahead_trans d d' (y ∷ ys) h a = (omega (arith, a.0), ahead_trans d d' ys h a.1)

ahead_place : (d : ℕ) (x : Both) (l : List Both) → d ≤ due x → Ahead d l → Ahead d (place x l)
ahead_place d x [] h a = (h, tt)
ahead_place d x (y ∷ ys) h a = grind (arith, nat_tests, ahead_place d x ys h a.1)

place-sorted : (x : Both) (l : List Both) → Sorted l → Sorted (place x l)
place-sorted x [] o = (tt, tt)
place-sorted x (y ∷ ys) o =
    let trans = λ (before : due x ≤ due y). ahead_trans (due x) (due y) ys before o.0 in
    let lower = λ (behind : due y ≤ due x). ahead_place (due y) x ys behind o.0 in
    grind (arith, nat_tests, trans, lower, place-sorted x ys o.1)

pub sorted-is_sorted : (xs : List Both) → Sorted (sorted xs)
sorted-is_sorted [] = tt
sorted-is_sorted (x ∷ xs) = place-sorted x (sorted xs) (sorted-is_sorted xs)

-- What holds of all in the sorted list holds of all.
all_place : (P : Both → Type 0) (x : Both) (l : List Both) → AllByRecursion P (place x l) → AllByRecursion P (x ∷ l)
all_place P x [] = λ h. h
all_place P x (y ∷ ys) = grind (arith, nat_tests, all_place P x ys)

pub all_sorted : (P : Both → Type 0) (xs : List Both) → AllByRecursion P (sorted xs) → AllByRecursion P xs
all_sorted P [] h = tt
all_sorted P (x ∷ xs) h = ((all_place P x (sorted xs) h).0, all_sorted P xs (all_place P x (sorted xs) h).1)

-- Sums over all.
abbrev pub summed : (Both → ℕ) → List Both → ℕ
summed g [] = 0
summed g (x ∷ xs) = g x + summed g xs

summed-place : (g : Both → ℕ) (x : Both) (l : List Both) → summed g (place x l) ≡ g x + summed g l
summed-place g x [] = refl
summed-place g x (y ∷ ys) = grind (arith, nat_tests, summed-place g x ys)

pub summed-sorted : (g : Both → ℕ) (xs : List Both) → summed g (sorted xs) ≡ summed g xs
summed-sorted g [] = refl
summed-sorted g (x ∷ xs) = summed-place g x (sorted xs) ∙ ap (λ n. g x + n) (summed-sorted g xs)

-- Setting aside does not move anybody.
others-place :
    (switch : Bool) (t : ℕ) (x : Both) (l : List Both)
    → others switch t (place x l) ≡ place (yields switch t x) (others switch t l)
others-place sw t x [] = refl
others-place sw t (row j l e st) (row i k f su ∷ ys) = grind (arith, nat_tests, others-place sw t (row j l e st) ys)

pub sorted-others : (switch : Bool) (t : ℕ) (xs : List Both) → sorted (others switch t xs) ≡ others switch t (sorted xs)
sorted-others sw t [] = refl
sorted-others sw t (x ∷ xs) =
    ap (place (yields sw t x)) (sorted-others sw t xs) ∙ sym (others-place sw t x (sorted xs))

-- The earliest deadline of those that pass a test.
abbrev pub with_due : Bool → ℕ → Option ℕ → Option ℕ
with_due passes d o = cond passes (Some (sooner d o)) o

abbrev pub earliest : (Both → Bool) → List Both → Option ℕ
earliest test [] = None
earliest test (x ∷ xs) = with_due (test x) (due x) (earliest test xs)

-- A change of the first one by number that passes the test and is due at d; and of the first one in the list that passes.
abbrev pub change : (Both → Bool) → (Both → Both) → ℕ → List Both → List Both
change test new d [] = []
change test new d (x ∷ xs) = cond (test x && eqb (due x) d) (new x ∷ xs) (x ∷ change test new d xs)

abbrev pub change_first : (Both → Bool) → (Both → Both) → List Both → List Both
change_first test new [] = []
change_first test new (x ∷ xs) = cond (test x) (new x ∷ xs) (x ∷ change_first test new xs)

-- A deadline, if there is one, is at d or later; there is one, and it is before d.
abbrev From : ℕ → Option ℕ → Type 0
From d None = Unit {0}
From d (Some e) = d ≤ e

abbrev Sooner : ℕ → Option ℕ → Type 0
Sooner d None = ⊥
Sooner d (Some e) = e < d

from_not_sooner : (d : ℕ) (o : Option ℕ) → From d o → Sooner d o → ⊥
from_not_sooner d None h k = k
from_not_sooner d (Some e) h k = omega arith

module _ (test : Both → Bool) where
  with-due-swap :
      (u v : Bool) (d e : ℕ) (o : Option ℕ) → with_due v e (with_due u d o) ≡ with_due u d (with_due v e o)
  with-due-swap u v d e o = grind (arith, nat_tests)

  earliest-place : (x : Both) (l : List Both) → earliest test (place x l) ≡ earliest test (x ∷ l)
  earliest-place x [] = refl
  earliest-place x (y ∷ ys) = grind (arith, nat_tests, earliest-place x ys, with-due-swap (test x) (test y) (due x) (due y) (earliest test ys))

  earliest-sorted : (xs : List Both) → earliest test (sorted xs) ≡ earliest test xs
  earliest-sorted [] = refl
  earliest-sorted (x ∷ xs) =
      earliest-place x (sorted xs) ∙ ap (with_due (test x) (due x)) (earliest-sorted xs)

  ahead-earliest : (d : ℕ) (l : List Both) → Ahead d l → From d (earliest test l)
  ahead-earliest d [] a = tt
  ahead-earliest d (y ∷ ys) a = grind (arith, nat_tests, ahead-earliest d ys a.1)

module _ (test : Both → Bool) (new : Both → Both) (keeps : (x : Both) → due (new x) ≡ due x) where
  -- The job placed is the first that passes.
  change-placed :
      (x : Both) (l : List Both)
      → test x ≡ true
      → From (due x) (earliest test l)
      → change_first test new (place x l) ≡ place (new x) l
  change-placed x [] p h = simp p
  change-placed x (y ∷ ys) p h = grind (arith, nat_tests, keeps x, change-placed x ys p)

  -- The job placed is not the first that passes.
  change-beside :
      (x : Both) (l : List Both)
      → Sorted l
      → (test x ≡ true → Sooner (due x) (earliest test l))
      → change_first test new (place x l) ≡ place x (change_first test new l)
  change-beside x [] o h = go (test x) refl
    where
      go : (v : Bool) → test x ≡ v → change_first test new (place x []) ≡ place x []
      go true p = absurd (h p)
      go false p = simp p
  change-beside x (y ∷ ys) o h =
      let ahead = λ (before : due x ≤ due y). ahead-earliest test (due x) (y ∷ ys) (before, ahead_trans (due x) (due y) ys before o.0) in
      grind (arith, nat_tests, keeps x, ahead, from_not_sooner (due x) (earliest test (y ∷ ys)), change-beside x ys o.1)

  -- The change that the first by deadline and number undergoes is that of the first in the sorted list.
  pub sorted-change :
      (xs : List Both) (d : ℕ)
      → earliest test xs ≡ Some d
      → sorted (change test new d xs) ≡ change_first test new (sorted xs)
  sorted-change [] d h = refl
  sorted-change (x ∷ xs) d h =
      grind (arith, nat_tests, earliest-sorted test xs, change-placed x (sorted xs), change-beside x (sorted xs) (sorted-is_sorted xs), sorted-change xs d)

  unchanged : (l : List Both) → earliest test l ≡ None → change_first test new l ≡ l
  unchanged [] h = refl
  unchanged (x ∷ xs) h = grind (arith, nat_tests, unchanged xs)

  pub sorted-unchanged : (xs : List Both) → earliest test xs ≡ None → sorted xs ≡ change_first test new (sorted xs)
  sorted-unchanged xs h = sym (unchanged (sorted xs) (earliest-sorted test xs ∙ h))

-- The first in the list whose stage passes a test.
abbrev pub leading : (Stage → Bool) → List Both → Option SlowRow
leading test [] = None
leading test (x ∷ xs) = cond (test (slow_row x).stage) (Some (slow_row x)) (leading test xs)

module _ (test : Stage → Bool) where
  due-slow-row : (x : Both) → (slow_row x).job.deadline ≡ due x
  due-slow-row (row j l e st) = refl

  ahead-earlier : (x : Both) (l : List Both) → Ahead (due x) l → earlier (slow_row x) (leading test l) ≡ slow_row x
  ahead-earlier x [] a = refl
  ahead-earlier x (y ∷ ys) a = grind (arith, nat_tests, due-slow-row x, due-slow-row y, ahead-earlier x ys a.1)

  leading-place :
      (x : Both) (l : List Both)
      → Sorted l
      → leading test (place x l)
      ≡ cond (test (slow_row x).stage) (Some (earlier (slow_row x) (leading test l))) (leading test l)
  leading-place x [] o = refl
  leading-place x (y ∷ ys) o =
      let ahead = λ (before : due x ≤ due y). ahead-earlier x (y ∷ ys) (before, ahead_trans (due x) (due y) ys before o.0) in
      grind (arith, nat_tests, due-slow-row x, due-slow-row y, ahead, leading-place x ys o.1)

  pub first-is-leading : (xs : List Both) → first test (map slow_row xs) ≡ leading test (sorted xs)
  first-is-leading [] = refl
  first-is-leading (x ∷ xs) =
      ap (λ o. cond (test (slow_row x).stage) (Some (earlier (slow_row x) o)) o) (first-is-leading xs)
      ∙ sym (leading-place x (sorted xs) (sorted-is_sorted xs))
