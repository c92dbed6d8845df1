-- What is told across the boundary.
use Rattle.std.specs.Prelude.{◌≡◌, ℕ, ◌≤◌, ◌⊎◌, List, Ok, Err, Result}
use Rattle.cues.specs.Loading.{Loading}
use Rattle.sheet.specs.declared.read.ReadSheet.{ReadSheet}
use Rattle.sheet.specs.Sheets.{contents, jobs, reading_bytes}

-- The demand of the loading factor of a sheet.
pub record Demands (sheet : ReadSheet) (demand : ℕ) : Type 0 where
  pub length : ℕ
  pub start : ℕ
  pub end : ℕ
  pub loading : Loading (jobs sheet) demand length start end

-- The demand that was found at least once, unless memory was wanting.
abbrev pub Found : {E : Type 0} → ReadSheet → ℕ → Result ℕ E → Type 0
Found sheet rounds (Ok demand) = 1 ≤ rounds → Demands sheet demand
Found sheet rounds (Err e) = Unit {0}

-- The bytes are those of a sheet whose loading factor has this demand; a sheet that cannot be read, and want of memory, are
-- told by the largest number.
abbrev pub Told : List ℕ → ℕ → ℕ → Type 0
Told bytes rounds answer =
    (answer ≡ 18446744073709551615)
    ⊎ ((sheet : ReadSheet) × (reading_bytes bytes ≡ Ok (contents sheet)) × (1 ≤ rounds → Demands sheet answer))
