-- An overload shows a missed job. The work done for the jobs inside [a, b) is, as long as the clock is at b or before it,
-- at most the ticks since a; so the budgets of those that are over by b are never more than the ticks of [a, b).
-- If no job is missed once all deadlines have come, all of those are over by b, and their budgets are the whole demand.
use Rattle.std.proofs.Common.{◌≡◌, ℕ, ◌+◌, ◌-◌, ◌<◌, ◌≤◌, Bool, true, cond, eqb, leb, ◌⊎◌, List, [], ◌∷◌, map, Some, None, sum_by, Option, refl, inl, inr, ⊎_elim, arith}
use Rattle.std.specs.List.{ContainsAt, AllByRecursion}
use Rattle.std.proofs.lemmas.Bool.{cases_lt}
use Rattle.std.proofs.ByRecursion.{All-weaker, all-has}
use Rattle.std.proofs.lemmas.List.Sums.{sum_by_push}
use Rattle.std.proofs.lemmas.Bool.Decides.{nat_tests}
use Rattle.cues.specs.Demand.{demand, inside}
use Rattle.runs.specs.ReferenceRun.{Accepted, released, ticked, Row, Reference, fresh, served, step, run}
use Rattle.runs.specs.Deadlines.{Sound, jobs, last_deadline, OverBy}
use Rattle.runs.proofs.DemandSums.{demand-of_rows, sum_mono}
use Rattle.runs.proofs.ReferenceRows.{AllRegular, Agree, Regular, regular_released, regular_ticked, run-keeps}
use Rattle.runs.proofs.ReferenceTick.{ticked_rows, tick_sum_le}

-- The work done for a job.
abbrev done : Row → ℕ
done r = r.job.budget - r.left

-- The budget of a job that is over by b.
abbrev paid : ℕ → ℕ → Option ℕ → ℕ
paid b budget None = 0
paid b budget (Some end) = cond (leb end b) budget 0

abbrev over : ℕ → Row → ℕ
over b r = paid b r.job.budget r.end

-- Something of the jobs inside [a, b), and 0 of the others.
abbrev within : ℕ → ℕ → (Row → ℕ) → Row → ℕ
within a b f r = cond (inside a b r.job) (f r) 0

within-le : (t : Bool) (x y k : ℕ) → (t ≡ true → x ≤ y + k) → cond t x 0 ≤ cond t y 0 + k
within-le t x y k le = grind (arith, nat_tests)

inside-parts : (a b : ℕ) (r : Row) → inside a b r.job ≡ true → (a ≤ r.job.release) × (r.job.deadline ≤ b)
inside-parts a b r e = grind (arith, nat_tests)

-- What is over has its whole budget done.
paid-is_done : (b left budget : ℕ) (o : Option ℕ) → Agree left o → paid b budget o ≤ budget - left
paid-is_done b left budget o agree = grind (arith, nat_tests)

-- A job that is served after b is not over by b.
paid-served : (b after left budget : ℕ) (o : Option ℕ) → b < after → paid b budget (cond (eqb left 1) (Some after) o) ≤ paid b budget o
paid-served b after left budget o past = grind (arith, nat_tests)

module _ (a b : ℕ) where
  -- What holds throughout a run.
  pub record Fits (s : Reference) : Type 0 where
    pub regular : AllRegular s
    pub so_far : s.clock ≤ b → sum_by (within a b done) s.rows ≤ s.clock - a
    pub in_all : sum_by (within a b (over b)) s.rows ≤ b - a

  fresh-fits : Fits fresh
  fresh-fits = record { regular = tt; so_far = λ h. omega arith; in_all = omega arith }

  released-fits : (s : Reference) (deadline budget : ℕ) → 1 ≤ budget → s.clock < deadline → Fits s → Fits (step s (released deadline budget))
  released-fits s deadline budget some ahead f =
      record {
        regular = regular_released s deadline budget some f.regular;
        so_far = λ h. omega (arith, f.so_far h, sum_by_push (within a b done) s.rows row, none done (omega arith));
        in_all = omega (arith, f.in_all, sum_by_push (within a b (over b)) s.rows row, none (over b) refl);
      }
    where
      row : Row
      row = record { job = record { release = s.clock; deadline = deadline; budget = budget }; left = budget; end = None }

      none : (g : Row → ℕ) → g row ≡ 0 → within a b g row ≡ 0
      none g z = grind (arith, nat_tests)

  ticked-fits : (s : Reference) → Fits s → Fits (step s ticked)
  ticked-fits s f =
      record {
        regular = all-regular;
        so_far = soon;
        in_all = ⊎_elim past before (cases_lt b (s.clock + 1));
      }
    where
      rows' : List Row
      rows' = ticked_rows (s.clock + 1) s.rows

      all-regular : AllRegular (step s ticked)
      all-regular = regular_ticked s f.regular

      one_more : (r : Row) → ContainsAt s.rows r → within a b done (served (s.clock + 1) r) ≤ within a b done r + ((s.clock + 1 - a) - (s.clock - a))
      one_more r has =
          within-le (inside a b r.job) (done (served (s.clock + 1) r)) (done r) _
          (λ e. omega (arith, (inside-parts a b r e).0, (all-has _ s.rows r f.regular has).0))

      soon : s.clock + 1 ≤ b → sum_by (within a b done) rows' ≤ s.clock + 1 - a
      soon h = omega (arith, f.so_far (omega arith), tick_sum_le (within a b done) ((s.clock + 1 - a) - (s.clock - a)) (s.clock + 1) s.rows one_more)

      no_more : b < s.clock + 1 → (r : Row) → ContainsAt s.rows r → within a b (over b) (served (s.clock + 1) r) ≤ within a b (over b) r + 0
      no_more h r has =
          within-le (inside a b r.job) (over b (served (s.clock + 1) r)) (over b r) 0
          (λ e. omega (arith, paid-served b (s.clock + 1) r.left r.job.budget r.end h))

      past : b < s.clock + 1 → sum_by (within a b (over b)) rows' ≤ b - a
      past h = omega (arith, f.in_all, tick_sum_le (within a b (over b)) 0 (s.clock + 1) s.rows (no_more h))

      done_first : (r : Row) → Regular (s.clock + 1) r → within a b (over b) r ≤ within a b done r
      done_first r regular = omega (arith, within-le (inside a b r.job) (over b r) (done r) 0 (λ e. omega (arith, paid-is_done b r.left r.job.budget r.end regular.1)))

      before : s.clock + 1 ≤ b → sum_by (within a b (over b)) rows' ≤ b - a
      before h = omega (arith, soon h, sum_mono (within a b (over b)) (within a b done) rows' (All-weaker _ _ done_first rows' all-regular))

  pub always-fits : (calls : List Accepted) → Sound 0 calls → Fits (run fresh calls)
  always-fits calls sound = run-keeps Fits released-fits ticked-fits calls fresh sound fresh-fits

-- Every deadline has come by the last one.
pub due-by_last : (rows : List Row) → AllByRecursion (λ r. r.job.deadline ≤ last_deadline (map (λ r. r.job) rows)) rows
due-by_last [] = tt
due-by_last (r ∷ rows) = (omega arith, All-weaker _ _ (λ x due. omega arith) rows (due-by_last rows))

pub over-by_or_not : (d : ℕ) (o : Option ℕ) → OverBy d o ⊎ ¬ OverBy d o
over-by_or_not d None = inr (λ h. h)
over-by_or_not d (Some end) = ⊎_elim (λ late. inr (λ early. omega arith)) inl (cases_lt d end)

-- Where every job is over by its deadline, no interval demands more ticks than it has.
pub in_time_fits : (a b : ℕ) (s : Reference) → Fits a b s → AllByRecursion (λ r. OverBy r.job.deadline r.end) s.rows → demand (jobs s) a b ≤ b - a
in_time_fits a b s f in_time =
    omega (arith, f.in_all, demand-of_rows s.rows a b, sum_mono budgets (within a b (over b)) s.rows (All-weaker _ _ whole s.rows in_time))
  where
    budgets : Row → ℕ
    budgets = within a b (λ r. r.job.budget)

    paid-whole : (budget deadline : ℕ) (o : Option ℕ) → deadline ≤ b → OverBy deadline o → budget ≤ paid b budget o
    paid-whole budget deadline o due early = grind (arith, nat_tests)

    whole : (r : Row) → OverBy r.job.deadline r.end → budgets r ≤ within a b (over b) r
    whole r early =
        omega (arith, within-le (inside a b r.job) r.job.budget (over b r) 0 (λ e. omega (arith, paid-whole r.job.budget r.job.deadline r.end (inside-parts a b r e).1 early)))
