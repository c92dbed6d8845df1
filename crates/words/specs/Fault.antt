-- The faults of a word.
use Rattle.std.specs.Prelude.{ℕ}
use Rattle.words.specs.declared.fault.WordFault.{WordFault}
use Rattle.words.specs.declared.fault.WordFault.TheVariants.{Misplaced, EndsEarly}

-- A word of a wrong kind, edition, end or place is 9; words that end early are 10.
abbrev pub word_number : WordFault → ℕ
word_number Misplaced = 9
word_number EndsEarly = 10
