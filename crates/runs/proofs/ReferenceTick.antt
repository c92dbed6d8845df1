-- A tick of the reference run goes to one job, which has ticks left and is due no later than any other such job;
-- where no job has ticks left, it changes no row. What holds of every row, and sums over the rows, follow a tick by that.
use Rattle.std.proofs.Common.{◌≡◌, ℕ, suc, ◌+◌, ◌<◌, ◌≤◌, Bool, true, false, ◌&&◌, eqb, ltb, List, [], ◌∷◌, map, length, get_or, set, Some, None, sum_by, Option, sym, refl, ap, ◌∙◌, subst, arith}
use lib.Seq.{map-set_same}
use Rattle.std.specs.List.{ContainsAt, AllByRecursion}
use Rattle.std.proofs.lemmas.Bool.{cond-true, cond-false, ltb-true, eqb-true, eqb-false, and_parts, and_from, and_left, and_right}
use Rattle.std.proofs.ByRecursion.{All-weaker, All-set, all-has, has_get_or}
use Rattle.std.proofs.lemmas.List.Sums.{sum_by-set}
use Rattle.std.proofs.lemmas.Bool.Decides.{nat_tests}
use Rattle.runs.specs.ReferenceRun.{Row, sooner, soonest, served, serve, serve_soonest}

-- Every job with ticks left is due at d or later.
abbrev pub NoneBefore : ℕ → List Row → Type 0
NoneBefore d rows = AllByRecursion (λ r. 0 < r.left → d ≤ r.job.deadline) rows

-- No job has ticks left.
abbrev pub AllDone : List Row → Type 0
AllDone rows = AllByRecursion (λ r. r.left ≡ 0) rows

-- What the earliest deadline tells of the rows.
abbrev Soonest : Option ℕ → List Row → Type 0
Soonest None rows = AllDone rows
Soonest (Some d) rows = NoneBefore d rows

soonest-with : (r : Row) (rows : List Row) (o : Option ℕ) → Soonest o rows → Soonest (Some (sooner r.job.deadline o)) (r ∷ rows)
soonest-with r rows None rest = ((λ h. omega arith), All-weaker _ _ (λ x z h. omega arith) rows rest)
soonest-with r rows (Some d) rest = ((λ h. omega arith), All-weaker _ _ (λ x f h. omega (arith, f h)) rows rest)

soonest-without : (r : Row) (rows : List Row) (o : Option ℕ) → r.left ≡ 0 → Soonest o rows → Soonest o (r ∷ rows)
soonest-without r rows o z rest = grind (arith, nat_tests)

soonest-is_first : (rows : List Row) → Soonest (soonest rows) rows
soonest-is_first [] = tt
soonest-is_first (r ∷ rows) = grind (arith, nat_tests, soonest-with r rows (soonest rows), soonest-without r rows (soonest rows), soonest-is_first rows)

-- The job that a tick goes to: at its place, with ticks left, and due at d.
pub record Served (d : ℕ) (rows : List Row) : Type 0 where
  pub place : ℕ
  pub row : Row
  pub stands : place < length rows
  pub there : get_or rows place row ≡ row
  pub working : 0 < row.left
  pub due : row.job.deadline ≡ d

-- The rows once it has had its tick.
abbrev pub with_served : (after d : ℕ) (rows : List Row) → Served d rows → List Row
with_served after d rows s = set rows s.place (served after s.row)

abbrev Finds : ℕ → ℕ → List Row → Type 0
Finds after d rows = (s : Served d rows) × (serve after d rows ≡ with_served after d rows s)

finds_here : (after d : ℕ) (r : Row) (rows : List Row) → (ltb 0 r.left && eqb r.job.deadline d) ≡ true → Finds after d (r ∷ rows)
finds_here after d r rows e =
    let both = and_parts _ _ e in (
      record {
        place = 0;
        row = r;
        stands = omega arith;
        there = refl;
        working = ltb-true 0 r.left both.0;
        due = eqb-true r.job.deadline d both.1;
      },
      cond-true _ _ _ e,
    )

finds_later : (after d : ℕ) (r : Row) (rows : List Row) → (ltb 0 r.left && eqb r.job.deadline d) ≡ false → Finds after d rows → Finds after d (r ∷ rows)
finds_later after d r rows e (s, becomes) = (
  record {
    place = suc s.place;
    row = s.row;
    stands = omega (arith, s.stands);
    there = s.there;
    working = s.working;
    due = s.due;
  },
  cond-false _ _ _ e ∙ ap (λ rs. r ∷ rs) becomes,
)

sooner-of_rest : (d e : ℕ) (o : Option ℕ) → (d ≡ e → ⊥) → sooner d o ≡ e → o ≡ Some e
sooner-of_rest d e o other is = grind (arith, nat_tests)

serve-finds : (after d : ℕ) (rows : List Row) → soonest rows ≡ Some d → Finds after d rows
serve-finds after d [] is = cc
serve-finds after d (r ∷ rows) is = go (ltb 0 r.left) (eqb r.job.deadline d) refl refl (serve-finds after d rows)
  where
    go : (working due : Bool) → ltb 0 r.left ≡ working → eqb r.job.deadline d ≡ due → (soonest rows ≡ Some d → Finds after d rows) → Finds after d (r ∷ rows)
    go true true w e rest = finds_here after d r rows (and_from _ _ w e)
    go true false w e rest =
        finds_later after d r rows (and_right _ _ e)
        (rest (sooner-of_rest r.job.deadline d (soonest rows) (eqb-false _ d e) (cc (sym (cond-true _ _ _ w) ∙ is))))
    go false due w e rest = finds_later after d r rows (and_left _ _ w) (rest (sym (cond-false _ _ _ w) ∙ is))

-- The rows after a tick.
abbrev pub ticked_rows : ℕ → List Row → List Row
ticked_rows after rows = serve_soonest after (soonest rows) rows

-- The two cases of a tick: no job has ticks left, or one that is first is served.
pub by_tick : (after : ℕ) (rows : List Row) (P : List Row → Type 0) → (AllDone rows → P rows) → ((d : ℕ) (s : Served d rows) → NoneBefore d rows → P (with_served after d rows s)) → P (ticked_rows after rows)
by_tick after rows P idle one = go (soonest rows) refl (soonest-is_first rows)
  where
    go : (o : Option ℕ) → soonest rows ≡ o → Soonest o rows → P (serve_soonest after o rows)
    go None is all_done = idle all_done
    go (Some d) is first =
        let (s, becomes) = serve-finds after d rows is in
        subst P (sym becomes) (one d s first)

served-has : (d : ℕ) (rows : List Row) (s : Served d rows) → ContainsAt rows s.row
served-has d rows s = subst (ContainsAt rows) s.there (has_get_or rows s.place s.row s.stands)

-- A sum over the rows changes by what changes at the job served.
pub served-sum : (f : Row → ℕ) (after d : ℕ) (rows : List Row) (s : Served d rows) → sum_by f (with_served after d rows s) + f s.row ≡ sum_by f rows + f (served after s.row)
served-sum f after d rows s =
    subst (λ r. sum_by f (with_served after d rows s) + f r ≡ sum_by f rows + f (served after s.row)) s.there
    (sum_by-set f rows s.place _ s.row s.stands)

-- A sum over the rows grows by at most k under a tick, if it does so at any job that may be served.
pub tick_sum_le : (f : Row → ℕ) (k after : ℕ) (rows : List Row) → ((r : Row) → ContainsAt rows r → f (served after r) ≤ f r + k) → sum_by f (ticked_rows after rows) ≤ sum_by f rows + k
tick_sum_le f k after rows grows =
    by_tick after rows (λ rs. sum_by f rs ≤ sum_by f rows + k)
    (λ all_done. omega arith) (λ d s first. omega (arith, served-sum f after d rows s, grows s.row (served-has d rows s)))

-- What holds of every row after a tick: the rows that stay give it, and so does the row served.
pub tick_all : (P Q : Row → Type 0) (after : ℕ) (rows : List Row) → ((r : Row) → P r → Q r) → ((r : Row) → ContainsAt rows r → 0 < r.left → P r → Q (served after r)) → AllByRecursion P rows → AllByRecursion Q (ticked_rows after rows)
tick_all P Q after rows stays changes all =
    by_tick after rows (AllByRecursion Q)
    (λ all_done. others)
    (λ d s first.
    let has = served-has d rows s in
    All-set Q rows s.place _ (changes s.row has s.working (all-has P rows s.row all has)) others)
  where
    others : AllByRecursion Q rows
    others = All-weaker P Q stays rows all

-- A tick changes no job.
pub tick_jobs : (after : ℕ) (rows : List Row) → map (λ r. r.job) (ticked_rows after rows) ≡ map (λ r. r.job) rows
tick_jobs after rows =
    by_tick after rows (λ rs. map (λ r. r.job) rs ≡ map (λ r. r.job) rows)
    (λ all_done. refl) (λ d s first. map-set_same (λ r. r.job) rows s.place _ s.row (ap (λ r. r.job) (sym s.there)))
