-- The head of a file: edition 1, and a word for each rate.
use Rattle.std.specs.Prelude.{◌≡◌, ℕ, ◌^◌, ◌<◌, false, cond, List, [], ◌∷◌, ◌++◌, map, Ok, Err, Result, ◌==◌}
use Rattle.std.specs.List.{AllByRecursion}
use Rattle.words.specs.declared.Kind.TheVariants.{Edition, Rate}
use Rattle.words.specs.declared.fault.WordFault.{WordFault}
use Rattle.words.specs.declared.fault.WordFault.TheVariants.{Misplaced, EndsEarly}
use Rattle.words.specs.Words.{is, begins, payload, word}

-- The rates at the front of some words, up to the first word of another kind.
abbrev pub rates_in : List ℕ → List ℕ
rates_in [] = []
rates_in (w ∷ ws) = cond (is Rate w) (payload w ∷ rates_in ws) []

-- The words behind those rates.
abbrev pub behind_rates : List ℕ → List ℕ
behind_rates [] = []
behind_rates (w ∷ ws) = cond (is Rate w) (behind_rates ws) (w ∷ ws)

-- What a head holds: the rates, and the words behind them.
pub record Front : Type 0 where
  pub rates : List ℕ
  pub rest : List ℕ

-- The head of the words; there is none where the first word is missing or is not edition 1.
abbrev pub head : List ℕ → Result Front WordFault
head [] = Err EndsEarly
head (w ∷ ws) = cond (w == 1) (Ok (record { rates = rates_in ws; rest = behind_rates ws })) (Err Misplaced)

-- The words are edition 1, a word for each rate, and then what does not begin with a rate.
pub record WordsOf (words : List ℕ) (front : Front) : Type 0 where
  pub same_words : words ≡ word Edition 1 ∷ (map (word Rate) front.rates ++ front.rest)
  pub rates_fit : AllByRecursion (λ rate. rate < 2 ^ 28) front.rates
  pub no_more : begins Rate front.rest ≡ false
