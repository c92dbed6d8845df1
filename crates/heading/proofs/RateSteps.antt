-- The rates at the front are the payloads of the words that are rates, and as many words stand before the rest.
use Rattle.std.proofs.Common.{◌≡◌, ℕ, ◌+◌, Bool, true, false, cond, List, [], ◌∷◌, length, map, drop, Ok, sym, refl, ap, ◌∙◌}
use Rattle.std.proofs.lemmas.List.{drop-drop}
use Rattle.std.proofs.lemmas.List.Sums.{take_while-cons}
use Rattle.std.specs.List.{take_while}
use Rattle.words.specs.declared.Kind.TheVariants.{Rate}
use Rattle.words.specs.Words.{is, payload}
use Rattle.heading.specs.Heading.{rates_in, behind_rates, head}
use Rattle.heading.specs.Heads.{Edition}

pub rates_while : (ws : List ℕ) → map payload (take_while (is Rate) ws) ≡ rates_in ws
rates_while [] = refl
rates_while (w ∷ ws) = ap (map payload) (take_while-cons (is Rate) w ws) ∙ by_kind (is Rate w) (rates_while ws)
  where
    by_kind : (rate : Bool) → map payload (take_while (is Rate) ws) ≡ rates_in ws → map payload (cond rate (w ∷ take_while (is Rate) ws) []) ≡ cond rate (payload w ∷ rates_in ws) []
    by_kind true more = ap (λ rates. payload w ∷ rates) more
    by_kind false more = refl

behind_drop : (ws : List ℕ) → drop (length (rates_in ws)) ws ≡ behind_rates ws
behind_drop [] = refl
behind_drop (w ∷ ws) = by_kind (is Rate w) (behind_drop ws)
  where
    by_kind : (rate : Bool) → drop (length (rates_in ws)) ws ≡ behind_rates ws → drop (length (cond rate (payload w ∷ rates_in ws) [])) (w ∷ ws) ≡ cond rate (behind_rates ws) (w ∷ ws)
    by_kind true more = more
    by_kind false more = refl

-- The rates and the words behind them make the head.
pub head_read : (words rates rest : List ℕ) (levels : ℕ) → Edition words (Ok tt) → rates ≡ rates_in (drop 1 words) → levels ≡ length rates → rest ≡ drop (1 + levels) words → head words ≡ Ok (record { rates = rates; rest = rest })
head_read words rates rest levels edition found counted left =
    let behind : rest ≡ behind_rates (drop 1 words) =
    left ∙ ap (λ n. drop (1 + n) words) (counted ∙ ap length found) ∙ sym (drop-drop (length (rates_in (drop 1 words))) 1 words) ∙ behind_drop (drop 1 words) in
    edition.1 ∙ rw (found, behind)
