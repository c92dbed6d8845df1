use Rattle.std.proofs.Common.{ℕ, ◌-◌, ◌*◌, ◌≤◌, sym, subst, arith}
use Rattle.rates.specs.Table.{rates_of, top_rate}
use Rattle.scheduler.proofs.KeptPlaces.{first_good, first_fits}
use Rattle.scheduler.proofs.day.Day.switching.Goals as goal

pub bound_of-bound-requires : goal.bound_of-bound-requires
bound_of-bound-requires g c = first_good c.args.self.now c.args.job c.requires.0.first

pub overflow_sub-work : goal.overflow_sub-work
overflow_sub-work g c =
    omega (arith, c.bound_of-bound.ensures, (first_fits c.args.self.now c.args.job c.requires.0.first).0)

pub level_for-level-requires : goal.level_for-level-requires
level_for-level-requires g c =
    let day = c.args.self.now in
    let job = c.args.job in
    let enough : ℕ → Type 0 = λ bound. job.remaining ≤ top_rate (rates_of day.table) * (bound - day.clock) in
    subst enough (sym c.bound_of-bound.ensures) (first_fits day job c.requires.0.first).2
