-- Demand and the reference run, for every sound list of accepted calls. Where no interval demands more ticks than it has,
-- each job whose deadline has come was over by then. A missed job shows an overloaded interval; and once the last deadline
-- has come, an overloaded interval shows a missed job.
use Rattle.std.proofs.Common.{◌≤◌, ◌↔◌, List, ⊎_elim, arith}
use Rattle.std.specs.List.{ContainsAt}
use Rattle.std.proofs.ByRecursion.{all-has}
use Rattle.cues.specs.Demand.{Overloaded, Feasible}
use Rattle.runs.specs.ReferenceRun.{Accepted, Row, Reference, fresh, run}
use Rattle.runs.specs.Deadlines.{Sound, jobs, last_deadline, OverBy, Misses}
use Rattle.runs.proofs.DemandSums.{all-or-some}
use Rattle.runs.proofs.ReferenceBacklog.{always_on_time, missed_shows_overload}
use Rattle.runs.proofs.ReferenceWork.{always-fits, in_time_fits, due-by_last, over-by_or_not}

module _ (calls : List Accepted) (sound : Sound 0 calls) where
  -- The reference run after the calls.
  abbrev final : Reference
  final = run fresh calls

  -- A missed job shows an overloaded interval, at any clock.
  pub missed-overloaded : Misses final → Overloaded (jobs final)
  missed-overloaded (r, has, missed) = missed_shows_overload final (always_on_time calls sound) r has missed

  -- Where no interval is overloaded, each job whose deadline has come was over by then.
  pub feasible-over-by-deadline : Feasible (jobs final) → (r : Row) → ContainsAt final.rows r → r.job.deadline ≤ final.clock → OverBy r.job.deadline r.end
  feasible-over-by-deadline feasible r has come =
      ⊎_elim (λ over. over) (λ late. absurd (no-overload (missed-overloaded (r, has, (come, late)))))
      (over-by_or_not r.job.deadline r.end)
    where
      no-overload : Overloaded (jobs final) → ⊥
      no-overload (a, b, some, more) = omega (arith, feasible a b some)

  -- An overloaded interval shows a missed job, once the last deadline has come.
  pub overloaded-missed : last_deadline (jobs final) ≤ final.clock → Overloaded (jobs final) → Misses final
  overloaded-missed come (a, b, some, more) =
      ⊎_elim (λ in_time. absurd (omega (arith, in_time_fits a b final (always-fits a b calls sound) in_time))) late
      (all-or-some _ _ (λ r. over-by_or_not r.job.deadline r.end) final.rows)
    where
      late : ((r : Row) × ContainsAt final.rows r × ¬ OverBy r.job.deadline r.end) → Misses final
      late (r, has, not-over) = (r, has, (omega (arith, all-has _ final.rows r (due-by_last final.rows) has), not-over))

  -- Once the last deadline has come, some job is missed exactly when some interval is overloaded.
  pub missed-exactly-when-overloaded : last_deadline (jobs final) ≤ final.clock → Misses final ↔ Overloaded (jobs final)
  missed-exactly-when-overloaded come = (missed-overloaded, overloaded-missed come)
