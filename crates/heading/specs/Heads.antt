-- Heads that were read, and the answers of reading.
use Rattle.std.specs.Prelude.{◌≡◌, ℕ, ◌≤◌, List, length, drop, Ok, Err, vec_items, Result}
use Rattle.words.specs.declared.fault.WordFault.{WordFault}
use Rattle.heading.specs.declared.Head.{Head}
use Rattle.heading.specs.declared.HeadError.{HeadError}
use Rattle.heading.specs.declared.HeadError.TheVariants.{FirstWord, NoMemory}
use Rattle.heading.specs.Heading.{Front, head, rates_in, behind_rates}

-- What a head that was read holds.
abbrev pub front_of : Head → Front
front_of h = record { rates = vec_items h.rates; rest = h.rest.words.now }

-- The first word is right, or is the fault of the head.
abbrev pub Edition : List ℕ → Result Unit WordFault → Type 0
Edition words (Ok u) =
    (1 ≤ length words) × (head words ≡ Ok (record { rates = rates_in (drop 1 words); rest = behind_rates (drop 1 words) }))
Edition words (Err fault) = head words ≡ Err fault

-- The answer is the head of the words; want of memory says nothing of them.
abbrev pub ReadAs : List ℕ → Result Head HeadError → Type 0
ReadAs words (Ok h) = head words ≡ Ok (front_of h)
ReadAs words (Err (FirstWord fault)) = head words ≡ Err fault
ReadAs words (Err NoMemory) = Unit {0}
