-- What a policy may answer, and what each supplied policy answers.
use Rattle.std.specs.Prelude.{◌≡◌, ℕ, ◌+◌, ◌*◌, ◌<◌, ◌≤◌, min, max, cond, List, [], ◌∷◌, length, Some, None, Option, nat_le}
use Rattle.std.specs.Option.{option_map}
use Rattle.rates.specs.Table.{rate_of, top_rate}
use Rattle.rates.specs.declared.level.Level.{Level}

-- The number of the level that was answered, if one was.
abbrev pub numbered : Option Level → Option ℕ
numbered answer = option_map (λ level. level.0) answer

-- A level of the table at which the remaining units are done within the ticks.
pub record Sufficient (rates : List ℕ) (remaining ticks level : ℕ) : Type 0 where
  pub from_one : 1 ≤ level
  pub in_table : level ≤ length rates
  pub enough : remaining ≤ rate_of rates level * ticks

-- The meaning of a policy: none where even the top rate is too slow, otherwise a sufficient level.
abbrev pub Answers : List ℕ → ℕ → ℕ → Option ℕ → Type 0
Answers rates remaining ticks None = top_rate rates * ticks < remaining
Answers rates remaining ticks (Some level) = Sufficient rates remaining ticks level

-- The same meaning, said of the answer from outside: it is none exactly when the top rate is too slow, and any level
-- that it names is sufficient.
pub record Exact (rates : List ℕ) (remaining ticks : ℕ) (answer : Option ℕ) : Type 0 where
  pub none_then_too_slow : answer ≡ None → top_rate rates * ticks < remaining
  pub too_slow_then_none : top_rate rates * ticks < remaining → answer ≡ None
  pub sufficient : (level : ℕ) → answer ≡ Some level → Sufficient rates remaining ticks level

-- The first sufficient level of the rates that are left, the first of which has the given level.
abbrev pub least_from : ℕ → List ℕ → ℕ → ℕ → Option ℕ
least_from level [] remaining ticks = None
least_from level (rate ∷ rates) remaining ticks =
    cond (nat_le remaining (rate * ticks)) (Some level) (least_from (level + 1) rates remaining ticks)

-- The lowest sufficient level.
abbrev pub least : List ℕ → ℕ → ℕ → Option ℕ
least rates remaining ticks = least_from 1 rates remaining ticks

-- A sufficient level with no lower one; or none, where no level is sufficient.
abbrev pub Lowest : List ℕ → ℕ → ℕ → Option ℕ → Type 0
Lowest rates remaining ticks None = (level : ℕ) → Sufficient rates remaining ticks level → ⊥
Lowest rates remaining ticks (Some level) =
    Sufficient rates remaining ticks level × ((other : ℕ) → Sufficient rates remaining ticks other → level ≤ other)

-- The last level, if it is sufficient.
abbrev pub last : List ℕ → ℕ → ℕ → Option ℕ
last rates remaining ticks = cond (nat_le remaining (top_rate rates * ticks)) (Some (length rates)) None

-- The larger of a fixed level, or the last where the fixed one is past it, and another level.
abbrev pub raised_to : ℕ → List ℕ → ℕ → ℕ
raised_to fixed rates level = max (min fixed (length rates)) level

-- The inner answer raised to a fixed level; none where it is none.
abbrev pub floored : ℕ → List ℕ → Option ℕ → Option ℕ
floored fixed rates inner = option_map (raised_to fixed rates) inner

-- Worked examples of the lowest level: rates 7, 10, 12 and 14, and 7 ticks left.
abbrev pub LeastExamples : (List ℕ → ℕ → ℕ → Option ℕ) → Type 0
LeastExamples answer =
    (answer (7 ∷ 10 ∷ 12 ∷ 14 ∷ []) 84 7 ≡ Some 3) × (answer (7 ∷ 10 ∷ 12 ∷ 14 ∷ []) 85 7 ≡ Some 4)
    × (answer (7 ∷ 10 ∷ 12 ∷ 14 ∷ []) 98 7 ≡ Some 4) × (answer (7 ∷ 10 ∷ 12 ∷ 14 ∷ []) 99 7 ≡ None)
