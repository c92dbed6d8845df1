-- Which lists of rates are refused, with which cause, and what is true of a list so refused.
use Rattle.std.specs.Prelude.{◌≡◌, ℕ, ◌+◌, ◌<◌, ◌≤◌, cond, ◌&&◌, ◌⊎◌, List, [], ◌∷◌, length, Some, None, Option, nat_le, nat_lt}
use Rattle.std.specs.Option.{option_map}
use Rattle.rates.specs.Lawful.{Lawful, Good}
use Rattle.rates.specs.declared.refusal.TableRefusal.{TableRefusal}
use Rattle.rates.specs.declared.refusal.TableRefusal.TheVariants.{WrongLevelCount, WrongRateAt}

-- The first place, counted on from `place`, whose rate is not above the one before it or is over 4,095.
abbrev pub first_wrong : ℕ → ℕ → List ℕ → Option ℕ
first_wrong before place [] = None
first_wrong before place (rate ∷ rates) =
    cond (nat_lt before rate && nat_le rate 4095) (first_wrong rate (place + 1) rates) (Some place)

-- The refusal of a list of rates, if it is refused: its count first, then its first wrong rate.
abbrev pub judged : List ℕ → Option TableRefusal
judged rates =
    cond (nat_le 1 (length rates) && nat_le (length rates) 16)
    (option_map (λ place. WrongRateAt place) (first_wrong 0 0 rates))
    (Some (WrongLevelCount (length rates)))

-- A wrong rate: the count is right, every place before is good, and this one is not.
pub record FirstWrong (rates : List ℕ) (place : ℕ) : Type 0 where
  pub some : 1 ≤ length rates
  pub few : length rates ≤ 16
  pub within : place < length rates
  pub before : (k : ℕ) → k < place → Good rates k
  pub wrong : Good rates place → ⊥

-- What is wrong with a list, in each case of a refusal.
abbrev pub Wrong : List ℕ → TableRefusal → Type 0
Wrong rates (WrongLevelCount count) = (count ≡ length rates) × ((count ≡ 0) ⊎ (16 < count))
Wrong rates (WrongRateAt place) = FirstWrong rates place

-- A list is refused exactly when it is not lawful, and then for what is first wrong with it.
abbrev pub Verdict : List ℕ → Option TableRefusal → Type 0
Verdict rates None = Lawful rates
Verdict rates (Some refusal) = Wrong rates refusal × (Lawful rates → ⊥)
