-- What a rate table means: its list of rates, one a level.
use Rattle.std.specs.Prelude.{ℕ, ◌-◌, cond, ◌&&◌, List, length, take, Some, None, Option, nat_le, slice_index}
use Rattle.rates.specs.declared.table.RateTable.{RateTable}

-- The rates of a table, from level 1 on.
abbrev pub rates_of : RateTable → List ℕ
rates_of table = take table.count table.rates

-- The rate of a level that the table has; levels are numbered from 1.
abbrev pub rate_of : List ℕ → ℕ → ℕ
rate_of rates level = slice_index rates (level - 1)

-- The rate of a level, if the table has that level.
abbrev pub rate_at : List ℕ → ℕ → Option ℕ
rate_at rates level = cond (nat_le 1 level && nat_le level (length rates)) (Some (rate_of rates level)) None

-- The rate of the last level.
abbrev pub top_rate : List ℕ → ℕ
top_rate rates = rate_of rates (length rates)
