-- The refusals of a table as the box shows them: a number for each cause, and a value.
use Rattle.std.specs.Prelude.{ℕ}
use Rattle.rates.specs.declared.refusal.TableRefusal.{TableRefusal}
use Rattle.rates.specs.declared.refusal.TableRefusal.TheVariants.{WrongLevelCount, WrongRateAt}

-- 1 for a wrong count of levels, 2 for a wrong rate.
abbrev pub number_of : TableRefusal → ℕ
number_of (WrongLevelCount count) = 1
number_of (WrongRateAt place) = 2

-- The count, or the place of the rate.
abbrev pub value_of : TableRefusal → ℕ
value_of (WrongLevelCount count) = count
value_of (WrongRateAt place) = place
