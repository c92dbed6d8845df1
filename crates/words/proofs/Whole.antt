-- Whole words are the chunks of four bytes.
use Rattle.std.proofs.Common.{◌≡◌, ℕ, ◌/◌, List, [], ◌∷◌, length, map, refl, ap, ◌∙◌, suc, arith, w32}
use Rattle.std.specs.Int.{from_be_bytes}
use Rattle.std.specs.Simd.{first_chunks}
use Rattle.words.specs.Words.{whole, joined}

pub whole_chunks : (bytes : List ℕ) → map (from_be_bytes w32) (first_chunks 4 (length bytes / 4) bytes) ≡ whole bytes
whole_chunks [] = refl
whole_chunks (a ∷ []) = refl
whole_chunks (a ∷ (b ∷ [])) = refl
whole_chunks (a ∷ (b ∷ (c ∷ []))) = refl
whole_chunks (a ∷ (b ∷ (c ∷ (d ∷ rest)))) =
    let more : length (a ∷ (b ∷ (c ∷ (d ∷ rest)))) / 4 ≡ suc (length rest / 4) = omega arith in
    ap (λ n. map (from_be_bytes w32) (first_chunks 4 n (a ∷ (b ∷ (c ∷ (d ∷ rest)))))) more
    ∙ ap (λ ws. joined a b c d ∷ ws) (whole_chunks rest)
