-- Bytes, read as the words that they make.
use Rattle.std.specs.Prelude.{ℕ, ◌%◌, cond, List, length, Ok, Err, Result, ◌==◌}
use Rattle.words.specs.Words.{whole}

-- Where bytes are left over behind the whole words, the words end early there, unless something is wrong before.
abbrev pub left_over : {C F : Type 0} → ℕ → F → Result C F → Result C F
left_over bytes early (Ok c) = cond (bytes % 4 == 0) (Ok c) (Err early)
left_over bytes early (Err fault) = Err fault

-- Bytes are read as their whole words are; `early` is the fault of words that end before some place.
abbrev pub read_bytes : {C F : Type 0} → (List ℕ → Result C F) → (ℕ → F) → List ℕ → Result C F
read_bytes read early bytes = left_over (length bytes) (early (length (whole bytes))) (read (whole bytes))
