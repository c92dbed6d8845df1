-- What a write at a place of a vector leaves: the list with that place set.
use Rattle.std.proofs.Common.{◌≡◌, ℕ, List, length, drop, set, ap, ◌∙◌, arith}
use Rattle.std.specs.List.{refill}
use Rattle.std.proofs.lemmas.List.{length-set, take-append-le, take_all}

pub written : {X : Type 0} (xs ys : List X) (i : ℕ) (x : X) → ys ≡ xs → refill (length xs) xs (set ys i x) ≡ set xs i x
written xs ys i x same =
    let new = set xs i x in
    let long = length-set xs i x in
    ap (λ zs. refill (length xs) xs (set zs i x)) same
    ∙ take-append-le (length xs) new (drop (length new) xs) (omega arith)
    ∙ take_all (length xs) new (omega arith)
