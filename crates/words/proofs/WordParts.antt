-- A word is its kind and its payload, and nothing else.
use Rattle.std.proofs.Common.{◌≡◌, ℕ, ◌+◌, ◌*◌, ◌/◌, ◌^◌, ◌<◌, true, eqb, sym, ap, ◌∙◌, mod-lt, div-add-mod', arith, eqb-true}
use lib.Arith.{digits_div, digits_mod}
use Rattle.words.specs.declared.Kind.{Kind}
use Rattle.words.specs.Words.{number, is, payload, word}

-- The kind of a word that was put together is the one that it was put together from.
pub is_word : (kind other : Kind) (p : ℕ) → p < 2 ^ 28 → is kind (word other p) ≡ eqb (number other) (number kind)
is_word kind other p fits = ap (λ n. eqb n (number kind)) (digits_div (number other) fits)

pub payload-word : (kind : Kind) (p : ℕ) → p < 2 ^ 28 → payload (word kind p) ≡ p
payload-word kind p fits = digits_mod (number kind) fits

pub payload-fits : (w : ℕ) → payload w < 2 ^ 28
payload-fits w = mod-lt w (omega arith)

-- A word of a kind is put together from it and the payload.
pub word-of_kind : (kind : Kind) (w : ℕ) → is kind w ≡ true → w ≡ word kind (payload w)
word-of_kind kind w same = sym (div-add-mod' w (2 ^ 28)) ∙ ap (λ n. n * 2 ^ 28 + payload w) (eqb-true (w / 2 ^ 28) (number kind) same)
