-- What remains of a job, and the time that is left for it.
use Rattle.std.proofs.Common.{◌≡◌, ℕ, zero, suc, ◌+◌, ◌-◌, ◌*◌, ◌<◌, ◌≤◌, List, length, refl, arith}
use Rattle.rates.specs.Lawful.{Lawful}
use Rattle.rates.specs.Table.{rate_of, top_rate}
use Rattle.rates.proofs.Levels.{sufficient_above}

-- What a level of the table does in some ticks, the top rate does.
pub top_suffices :
    (rates : List ℕ) (remaining ticks level : ℕ)
    → Lawful rates
    → (1 ≤ level) × (level ≤ length rates) × (remaining ≤ rate_of rates level * ticks)
    → remaining ≤ top_rate rates * ticks
top_suffices rates remaining ticks level lawful h =
    (sufficient_above
    rates
    remaining
    ticks
    level
    (length rates)
    lawful
    (record { from_one = h.0; in_table = h.1; enough = h.2 })
    h.1
    (omega arith)
    ).enough

-- A tick that leaves something of a job ends before the job's bound, and the rest can still be done by then.
pub goes_on_in_time :
    (remaining rate bound clock : ℕ)
    → remaining ≤ rate * (bound - clock)
    → 1 ≤ remaining - rate
    → (clock + 1 < bound) × (remaining - rate ≤ rate * (bound - (clock + 1)))
goes_on_in_time remaining rate bound clock h left = go (bound - clock) refl h
  where
    go :
        (ticks : ℕ)
        → bound - clock ≡ ticks
        → remaining ≤ rate * ticks
        → (clock + 1 < bound) × (remaining - rate ≤ rate * (bound - (clock + 1)))
    go zero e h = absurd (omega arith)
    go (suc zero) e h = absurd (omega arith)
    go (suc (suc ticks)) e h =
        let rest : bound - (clock + 1) ≡ suc ticks = omega arith in
        (omega arith, rw rest (omega arith))
