-- What holds at the start of a reference run, and is kept by each accepted call, holds at its end. So it is with the rows:
-- each job has been released by now, and it has ticks left exactly as long as it has no end.
use Rattle.std.proofs.Common.{◌≡◌, ℕ, ◌+◌, ◌<◌, ◌≤◌, List, [], ◌∷◌, Some, None, Option, arith}
use Rattle.std.specs.List.{AllByRecursion}
use Rattle.std.proofs.ByRecursion.{All-push}
use Rattle.std.proofs.lemmas.Bool.Decides.{nat_tests}
use Rattle.runs.specs.ReferenceRun.{Accepted, released, ticked, Row, Reference, served, step, run}
use Rattle.runs.specs.Deadlines.{Sound}
use Rattle.runs.proofs.ReferenceTick.{tick_all}

pub run-keeps : (P : Reference → Type 0) → ((s : Reference) (deadline budget : ℕ) → 1 ≤ budget → s.clock < deadline → P s → P (step s (released deadline budget))) → ((s : Reference) → P s → P (step s ticked)) → (calls : List Accepted) (s : Reference) → Sound s.clock calls → P s → P (run s calls)
run-keeps P release tick [] s sound p = p
run-keeps P release tick (released deadline budget ∷ calls) s sound p =
    run-keeps P release tick calls (step s (released deadline budget)) sound.2 (release s deadline budget sound.0 sound.1 p)
run-keeps P release tick (ticked ∷ calls) s sound p = run-keeps P release tick calls (step s ticked) sound (tick s p)

-- There are ticks left as long as there is no end.
abbrev pub Agree : ℕ → Option ℕ → Type 0
Agree left None = 0 < left
Agree left (Some end) = left ≡ 0

-- A job that has been released by this clock, and whose end agrees with its ticks left.
abbrev pub Regular : ℕ → Row → Type 0
Regular clock r = (r.job.release ≤ clock) × Agree r.left r.end

abbrev pub AllRegular : Reference → Type 0
AllRegular s = AllByRecursion (Regular s.clock) s.rows

served-agrees : (after : ℕ) (r : Row) → 0 < r.left → Agree r.left r.end → Agree (served after r).left (served after r).end
served-agrees after r working agree = grind (arith, nat_tests)

pub regular_released : (s : Reference) (deadline budget : ℕ) → 1 ≤ budget → AllRegular s → AllRegular (step s (released deadline budget))
regular_released s deadline budget some all = All-push (Regular s.clock) s.rows _ all (omega arith, some)

pub regular_ticked : (s : Reference) → AllRegular s → AllRegular (step s ticked)
regular_ticked s all =
    tick_all (Regular s.clock) (Regular (s.clock + 1)) (s.clock + 1) s.rows
    (λ r regular. (omega arith, regular.1))
    (λ r has working regular. (omega arith, served-agrees (s.clock + 1) r working regular.1)) all
