-- Facts about the levels of a lawful table, and about the answers of policies.
use Rattle.std.proofs.Common.{◌≡◌, ℕ, zero, suc, ◌+◌, ◌-◌, ◌*◌, ◌<◌, ◌≤◌, Bool, true, false, not, ltb, leb, List, [], ◌∷◌, length, get_or, cond, Some, None, Option, refl, sym, ap, ◌∙◌, subst, ⊎_elim, add-zero, add-one, sub-one, mul-le-mul_right, arith}
use Rattle.std.proofs.lemmas.Iterator.Adapters.{position_from-zero}
use Rattle.std.proofs.lemmas.Bool.{cond_both, not-true, not-false, ltb-true, ltb-false, leb-true, leb-false, cases_lt}
use Rattle.std.proofs.lemmas.List.Sums.{prefix_len_passes, prefix_len_stops}
use Rattle.std.specs.List.{position, position_from, prefix_len}
use Rattle.std.specs.Option.{option_map}
use Rattle.rates.specs.Lawful.{Lawful, Rising}
use Rattle.rates.specs.Policy.{Sufficient, Answers, Exact, Lowest, least, least_from}
use Rattle.rates.specs.Table.{rate_of, top_rate}

later_is_higher :
    (rates : List ℕ) → Rising rates → (place more : ℕ) → place + more < length rates → get_or rates place 0 ≤ get_or rates (place + more) 0
later_is_higher rates rising place zero h = rw add-zero (omega arith)
later_is_higher rates rising place (suc more) h =
    let before : get_or rates place 0 ≤ get_or rates (place + more) 0 = later_is_higher rates rising place more (omega arith) in
    let step : get_or rates (place + more) 0 < get_or rates (place + more + 1) 0 = rising (place + more) (omega arith) in
    let same : place + suc more ≡ place + more + 1 = omega arith in
    rw same (omega arith)

-- A higher level of the table is sufficient too.
pub sufficient_above :
    (rates : List ℕ) (remaining ticks low high : ℕ) → Lawful rates → Sufficient rates remaining ticks low → low ≤ high → high ≤ length rates →
    Sufficient rates remaining ticks high
sufficient_above rates remaining ticks low high lawful sufficient above within =
    let place : (low - 1) + (high - low) ≡ high - 1 = omega (arith, sufficient.from_one) in
    let higher : rate_of rates low ≤ rate_of rates high =
    rw place at (later_is_higher rates lawful.rising (low - 1) (high - low) (omega (arith, sufficient.from_one))) in
    let faster : rate_of rates low * ticks ≤ rate_of rates high * ticks = mul-le-mul_right ticks higher in
    record {
      from_one = omega (arith, sufficient.from_one);
      in_table = within;
      enough = omega (arith, sufficient.enough);
    }

-- What a policy's meaning comes to.
pub exact_from_answers :
    (rates : List ℕ) (remaining ticks : ℕ) (answer : Option ℕ) → Lawful rates → Answers rates remaining ticks answer →
    Exact rates remaining ticks answer
exact_from_answers rates remaining ticks None lawful too-slow =
    record {
      none_then_too_slow = λ _. too-slow;
      too_slow_then_none = λ _. refl;
      sufficient = λ level named. let z : ◌≡◌ {A = ℕ} 0 1 = cc in absurd (omega arith);
    }
exact_from_answers rates remaining ticks (Some level) lawful sufficient =
    let top : remaining ≤ top_rate rates * ticks =
    (sufficient_above rates remaining ticks level (length rates) lawful sufficient sufficient.in_table (omega arith)).enough in
    record {
      none_then_too_slow = λ none. let z : ◌≡◌ {A = ℕ} 0 1 = cc in absurd (omega arith);
      too_slow_then_none = λ too-slow. absurd (omega arith);
      sufficient = λ other named. let same : level ≡ other = cc in subst (Sufficient rates remaining ticks) same sufficient;
    }

-- Where no lower level is sufficient, the answer is what a policy has to give.
pub answers_from_lowest :
    (rates : List ℕ) (remaining ticks : ℕ) (answer : Option ℕ) → Lawful rates → Lowest rates remaining ticks answer →
    Answers rates remaining ticks answer
answers_from_lowest rates remaining ticks None lawful none =
    ⊎_elim (λ (slow : top_rate rates * ticks < remaining). slow)
    (λ (enough : remaining ≤ top_rate rates * ticks). absurd (none (length rates) (record { from_one = lawful.some; in_table = omega arith; enough = enough })))
    (cases_lt (top_rate rates * ticks) remaining)
answers_from_lowest rates remaining ticks (Some level) lawful lowest = lowest.0

-- Counted from a level on, it is the level of the first rate that is enough.
first_level :
    (start : ℕ) (rates : List ℕ) (remaining ticks : ℕ) →
    option_map (λ place. place + 1) (position_from (λ rate. leb remaining (rate * ticks)) start rates) ≡ least_from (start + 1) rates remaining ticks
first_level start [] remaining ticks = refl
first_level start (rate ∷ rates) remaining ticks =
    elim (leb remaining (rate * ticks)) as (λ enough. option_map (λ place. place + 1) (cond enough (Some start) (position_from (λ r. leb remaining (r * ticks)) (start + 1) rates)) ≡ cond enough (Some (start + 1)) (least_from (start + 1 + 1) rates remaining ticks)) [
      | true ↦ refl
      | false ↦ first_level (start + 1) rates remaining ticks
    ]

-- The least level is that of the first rate that is enough.
least-is_first :
    (rates : List ℕ) (remaining ticks : ℕ) →
    option_map (λ place. place + 1) (position (λ rate. leb remaining (rate * ticks)) rates) ≡ least rates remaining ticks
least-is_first rates remaining ticks =
    ap (option_map (λ place. place + 1)) (position_from-zero (λ rate. leb remaining (rate * ticks)) rates) ∙ first_level 0 rates remaining ticks

-- No level below that of the first rate that is enough is sufficient, and none at all where no rate is.
first-is_lowest :
    (rates : List ℕ) (remaining ticks : ℕ) →
    Lowest rates remaining ticks (option_map (λ place. place + 1) (position (λ rate. leb remaining (rate * ticks)) rates))
first-is_lowest rates remaining ticks =
    let slow : ℕ → Bool = λ rate. not (leb remaining (rate * ticks)) in
    let first = prefix_len slow rates in
    let before : (k : ℕ) → k < first → get_or rates k 0 * ticks < remaining = λ k h. leb-false _ _ (not-true _ (prefix_len_passes slow rates k 0 h)) in
    cond_both (ltb first (length rates)) (Some first) None (λ (place : Option ℕ). Lowest rates remaining ticks (option_map (λ p. p + 1) place))
    (λ some.
    let within : first < length rates = ltb-true _ _ some in
    let enough : remaining ≤ get_or rates first 0 * ticks = leb-true _ _ (not-false _ (prefix_len_stops slow rates 0 within)) in (
      record { from_one = omega arith; in_table = omega arith; enough = simp (add-one, sub-one) enough },
      λ other sufficient.
          ⊎_elim
          (λ (lower : other < first + 1). absurd (omega (arith, sufficient.enough, before (other - 1) (omega (arith, sufficient.from_one)))))
          (λ (higher : first + 1 ≤ other). higher) (cases_lt other (first + 1)),
    ))
    (λ none. λ level sufficient.
    let all : length rates ≤ first = ltb-false _ _ none in
    absurd (omega (arith, sufficient.enough, before (level - 1) (omega (arith, sufficient.from_one, sufficient.in_table)))))

-- What an answer tells that is the least level.
pub record LeastOf (rates : List ℕ) (remaining ticks : ℕ) (answer : Option ℕ) : Type 0 where
  pub exact : answer ≡ least rates remaining ticks
  pub meaning : Answers rates remaining ticks answer
  pub lowest : Lowest rates remaining ticks answer

-- The level of the first rate of a lawful table that is enough is such an answer.
pub least_found :
    (rates : List ℕ) (remaining ticks : ℕ) (place : Option ℕ) → Lawful rates → place ≡ position (λ rate. leb remaining (rate * ticks)) rates →
    LeastOf rates remaining ticks (option_map (λ p. p + 1) place)
least_found rates remaining ticks place lawful found =
    let exact : option_map (λ p. p + 1) place ≡ least rates remaining ticks =
    ap (option_map (λ p. p + 1)) found ∙ least-is_first rates remaining ticks in
    let lowest = subst (λ o. Lowest rates remaining ticks (option_map (λ p. p + 1) o)) (sym found) (first-is_lowest rates remaining ticks) in
    record { exact = exact; meaning = answers_from_lowest rates remaining ticks _ lawful lowest; lowest = lowest }
