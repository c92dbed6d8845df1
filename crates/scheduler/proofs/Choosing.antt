-- The place of the first pending job: which job stands there, how it is found, and what is put in its place.
use Rattle.std.proofs.Common.{◌≡◌, ℕ, zero, suc, ◌<◌, ◌≤◌, Bool, true, false, cond, leb, List, [], ◌∷◌, ◌++◌, map, length, get_or, take, drop, set, Some, None, Option, sym, refl, ap, ◌∙◌, subst, arith}
use Rattle.std.specs.List.{remove, AllByRecursion}
use Rattle.std.proofs.ByRecursion.{All-get_or}
use Rattle.std.proofs.lemmas.List.{get_or-map, length-map, map-set, nil_from_length, set-get_or, set_split}
use Rattle.std.proofs.lemmas.Bool.{cond-true, cond-false, cond_both, leb-false, eq-eqb, ne_eqb}
use Rattle.std.proofs.lemmas.Bool.Decides.{nat_tests}
use Rattle.ordering.specs.First.{First}
use Rattle.scheduler.specs.declared.job.Job.{Job}
use Rattle.scheduler.specs.declared.job.Stage.TheVariants.{Waiting}
use Rattle.scheduler.specs.Day.{first_job, earlier, amend}
use Rattle.scheduler.specs.Good.{Numbered}
use Rattle.scheduler.specs.Places.{job_before, job_equal, due_place, first_place}
use Rattle.scheduler.proofs.Smallest.{Smallest, smallest_found, smallest_place_is}

-- The deadlines of some jobs.
abbrev pub dues : List Job → List ℕ
dues js = map (λ j. j.deadline) js

-- A job to stand where there is none.
abbrev pub no_job : Job
no_job = record { number = 0; deadline = 0; budget = 0; remaining = 0; stage = Waiting }

pub due-at : (js : List Job) (k : ℕ) (d : Job) → k < length js → get_or (dues js) k 0 ≡ (get_or js k d).deadline
due-at js k d within = get_or-map (λ (j : Job). j.deadline) js k d 0 within

first_found : (js : List Job) → 0 < length js → Smallest (dues js) (due_place js)
first_found js some = smallest_found (dues js) (omega (arith, length-map js (λ (j : Job). j.deadline)))

pub first-within : (js : List Job) → 0 < length js → due_place js < length js
first-within js some = omega (arith, (first_found js some).within, length-map js (λ (j : Job). j.deadline))

-- The job at that place is the first one.
pub first-job_at : (js : List Job) (d : Job) → 0 < length js → first_job js ≡ Some (get_or js (due_place js) d)
first-job_at [] d some = absurd (omega arith)
first-job_at (j ∷ []) d some =
    cond_both (leb j.deadline j.deadline) 0 1 (λ p. first_job (j ∷ []) ≡ Some (get_or (j ∷ []) p d))
    (λ e. refl)
    (λ e. absurd (omega (arith, leb-false j.deadline j.deadline e)))
first-job_at (j ∷ (k ∷ js)) d some =
    let p = due_place (k ∷ js) in
    let rest = get_or (k ∷ js) p d in
    let due : get_or (dues (k ∷ js)) p j.deadline ≡ rest.deadline =
    get_or-map (λ (q : Job). q.deadline) (k ∷ js) p d j.deadline (first-within (k ∷ js) (omega arith)) in
    ap (λ found. Some (earlier j found)) (first-job_at (k ∷ js) d (omega arith))
    ∙ ap Some (chosen (leb j.deadline rest.deadline) p)
    ∙ ap (λ n. Some (get_or (j ∷ (k ∷ js)) (cond (leb j.deadline n) 0 (suc p)) d)) (sym due)
  where
    chosen : (b : Bool) (p : ℕ) → cond b j (get_or (k ∷ js) p d) ≡ get_or (j ∷ (k ∷ js)) (cond b 0 (suc p)) d
    chosen true p = refl
    chosen false p = refl

-- Where there is a first job, some job is there, and the first stands at that place.
pub first_some : (js : List Job) (j : Job) → first_job js ≡ Some j → 0 < length js
first_some [] j found = let z : ◌≡◌ {A = ℕ} 0 1 = cc in absurd (omega arith)
first_some (k ∷ js) j found = omega arith

pub first-stands : (js : List Job) (j : Job) → first_job js ≡ Some j → j ≡ get_or js (due_place js) j
first-stands js j found = let here = first-job_at js j (first_some js j found) in cc

-- What holds of every job holds of the first one.
pub first-has : (P : Job → Type 0) (js : List Job) (j : Job) → first_job js ≡ Some j → AllByRecursion P js → P j
first-has P js j found all =
    subst P (sym (first-stands js j found)) (All-get_or P js (due_place js) j (first-within js (first_some js j found)) all)

-- No number is above the largest.
pub numbers_low : (js : List Job) (low high k : ℕ) (d : Job) → Numbered low high js → k < length js → (get_or js k d).number ≤ high
numbers_low [] low high k d rising within = absurd (omega arith)
numbers_low (j ∷ js) low high zero d rising within = rising.1
numbers_low (j ∷ js) low high (suc k) d rising within = numbers_low js j.number high k d rising.2 (omega arith)

numbers_above : (js : List Job) (low high k : ℕ) (d : Job) → Numbered low high js → k < length js → low < (get_or js k d).number
numbers_above [] low high k d rising within = absurd (omega arith)
numbers_above (j ∷ js) low high zero d rising within = rising.0
numbers_above (j ∷ js) low high (suc k) d rising within =
    omega (arith, rising.0, numbers_above js j.number high k d rising.2 (omega arith))

-- Jobs that are numbered in order have larger numbers at later places.
numbers_rise :
    (js : List Job) (low high i k : ℕ) (d : Job) → Numbered low high js → i < k → k < length js → (get_or js i d).number < (get_or js k d).number
numbers_rise [] low high i k d rising less within = absurd (omega arith)
numbers_rise (j ∷ js) low high zero zero d rising less within = absurd (omega arith)
numbers_rise (j ∷ js) low high zero (suc k) d rising less within = numbers_above js j.number high k d rising.2 (omega arith)
numbers_rise (j ∷ js) low high (suc i) zero d rising less within = absurd (omega arith)
numbers_rise (j ∷ js) low high (suc i) (suc k) d rising less within =
    numbers_rise js j.number high i k d rising.2 (omega arith) (omega arith)

not-before_due : (x y : Job) → job_before x y ≡ false → y.deadline ≤ x.deadline
not-before_due x y h = grind (arith, nat_tests)

not-before_late : (x y : Job) → job_before x y ≡ false → x.number < y.number → y.deadline < x.deadline
not-before_late x y h less = grind (arith, nat_tests)

-- Of jobs that are numbered in order, the first by deadline and number stands at that place.
pub due-place_is :
    (js : List Job) (low high p : ℕ) → Numbered low high js → First job_before job_equal js p → due_place js ≡ p
due-place_is js low high p rising first =
    let long = length-map js (λ (j : Job). j.deadline) in
    let here = due-at js p no_job first.within in
    smallest_place_is (dues js) p
    (record {
      within = omega (arith, first.within);
      least = λ k l.
          let within : k < length js = omega arith in
          rw (here, due-at js k no_job within)
          (not-before_due (get_or js k no_job) (get_or js p no_job) (first.unbeaten k no_job within));
      earliest = λ k l.
          let within : k < length js = omega (arith, first.within) in
          rw (here, due-at js k no_job within)
          (not-before_late (get_or js k no_job) (get_or js p no_job) (first.unbeaten k no_job within)
          (numbers_rise js low high k p no_job rising l first.within));
    })

-- Where some job is, the first one has that place.
pub first-place_some : (js : List Job) → 0 < length js → first_place js ≡ Some (due_place js)
first-place_some [] some = absurd (omega arith)
first-place_some (j ∷ js) some = refl

pub first-place_is : (js : List Job) (p : ℕ) → first_place js ≡ Some p → (0 < length js) × (p ≡ due_place js)
first-place_is [] p e = let z : ◌≡◌ {A = ℕ} 0 1 = cc in absurd (omega arith)
first-place_is (j ∷ js) p e = (omega arith, cc)

pub first-place_none : (js : List Job) → first_place js ≡ None → js ≡ []
first-place_none [] e = refl
first-place_none (j ∷ js) e = let z : ◌≡◌ {A = ℕ} 0 1 = cc in absurd (omega arith)

-- What the search for the first of some jobs finds is its place.
pub found_place :
    (js : List Job) (low high : ℕ) (o : Option ℕ) → Numbered low high js →
    (elim o as (λ x. Type 0) [ None ↦ length js ≡ 0 | Some p ↦ First job_before job_equal js p ]) → first_place js ≡ o
found_place js low high None rising none = ap first_place (nil_from_length js none)
found_place js low high (Some p) rising first =
    first-place_some js (omega (arith, first.within)) ∙ ap Some (due-place_is js low high p rising first)

-- A job with the deadline of the one in whose place it comes leaves the deadlines as they were.
pub dues-set :
    (js ks : List Job) (p : ℕ) (j : Job) → dues ks ≡ dues js → j.deadline ≡ get_or (dues js) p 0 → dues (set ks p j) ≡ dues js
dues-set js ks p j same due =
    map-set (λ (q : Job). q.deadline) ks p j
    ∙ ap (λ ns. set ns p j.deadline) same
    ∙ ap (set (dues js) p) due
    ∙ set-get_or (dues js) p 0

amend-at :
    (js : List Job) (p due : ℕ) (new : List Job) (d : Job) → p < length js → (get_or js p d).deadline ≡ due →
    ((k : ℕ) → k < p → (get_or js k d).deadline ≡ due → ⊥) → amend due new js ≡ take p js ++ (new ++ drop (suc p) js)
amend-at [] p due new d within here before = absurd (omega arith)
amend-at (j ∷ js) zero due new d within here before = cond-true _ _ _ (eq-eqb j.deadline due here)
amend-at (j ∷ js) (suc p) due new d within here before =
    cond-false _ _ _ (ne_eqb j.deadline due (before 0 (omega arith)))
    ∙ ap (λ rest. j ∷ rest) (amend-at js p due new d (omega arith) here (λ k l. before (suc k) (omega arith)))

-- In a list with the same deadlines, what takes the first job's place comes to stand there.
pub amend-first :
    (js ks : List Job) (new : List Job) (d : Job) → 0 < length js → dues ks ≡ dues js →
    amend (get_or js (due_place js) d).deadline new ks ≡ take (due_place js) ks ++ (new ++ drop (suc (due_place js)) ks)
amend-first js ks new d some same =
    let p = due_place js in
    let first = first_found js some in
    let long = length-map js (λ (j : Job). j.deadline) in
    let long-too = length-map ks (λ (j : Job). j.deadline) in
    let as_long = ap length same in
    let due : (k : ℕ) → k < length js → (get_or ks k d).deadline ≡ get_or (dues js) k 0 =
    λ k l. sym (due-at ks k d (omega arith)) ∙ ap (λ ns. get_or ns k 0) same in
    let within : p < length js = first-within js some in
    let here : (get_or ks p d).deadline ≡ (get_or js p d).deadline = due p within ∙ due-at js p d within in
    amend-at ks p (get_or js p d).deadline new d (omega arith) here
    (λ k l e.
    omega (arith, first.earliest k l, due k (omega arith), due-at js p d within, e))

pub set_first :
    (js ks : List Job) (j d : Job) → 0 < length js → dues ks ≡ dues js →
    amend (get_or js (due_place js) d).deadline (j ∷ []) ks ≡ set ks (due_place js) j
set_first js ks j d some same =
    let long = length-map js (λ (j : Job). j.deadline) in
    let long-too = length-map ks (λ (j : Job). j.deadline) in
    let as_long = ap length same in
    amend-first js ks (j ∷ []) d some same ∙ sym (set_split ks (due_place js) j (omega (arith, first-within js some)))

pub remove_first :
    (js ks : List Job) (d : Job) → 0 < length js → dues ks ≡ dues js →
    amend (get_or js (due_place js) d).deadline [] ks ≡ remove ks (due_place js)
remove_first js ks d some same = amend-first js ks [] d some same
