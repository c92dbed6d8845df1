-- Reading a tape, one word a request.
use Rattle.std.proofs.Common.{ℕ, zero, suc, List, [], ◌∷◌, drop, ap, ◌∙◌, one-add, arith}
use Rattle.std.proofs.lemmas.List.{drop-drop}
use Rattle.renderers.specs.Tape.{next, EachByItsWord}

pub each_by_its_word : (words : List ℕ) → EachByItsWord words
each_by_its_word words [] after turns n l = absurd (omega arith)
each_by_its_word words (answer ∷ answers) after turns zero l = turns.1.0
each_by_its_word words (answer ∷ answers) after turns (suc n) l =
    let rest = turns.0 in
    each_by_its_word rest answers after turns.2 n (omega arith)
    ∙ ap (λ ws. next (drop n ws)) turns.1.1
    ∙ ap next (drop-drop n 1 words ∙ ap (λ m. drop m words) (one-add n))
