-- Facts about judging a list of rates, and about the tables that come of it.
use Rattle.std.proofs.Common.{◌≡◌, ℕ, zero, suc, ◌+◌, ◌<◌, ◌≤◌, false, ◌&&◌, ltb, leb, List, [], ◌∷◌, length, get_or, take, Some, None, Option, refl, subst, inl, inr, ⊎_elim, add-one, sub-one, arith}
use Rattle.std.proofs.lemmas.List.{length-take-le}
use Rattle.std.proofs.lemmas.Bool.{cond_both, ltb-true, leb-true, leb-false, and_cases, and_parts}
use Rattle.std.proofs.lemmas.Bool.Decides.{nat_tests}
use Rattle.std.specs.Option.{option_map}
use Rattle.rates.proofs.FirstPlace.{Found, found_later, found_first}
use Rattle.rates.specs.Judged.{first_wrong, judged, Verdict, FirstWrong}
use Rattle.rates.specs.Lawful.{Lawful, Good}
use Rattle.rates.specs.Table.{rates_of}
use Rattle.rates.specs.declared.table.RateTable.{RateTable}
use Rattle.rates.specs.declared.refusal.TableRefusal.TheVariants.{WrongLevelCount, WrongRateAt}

-- The rate at a place, from 0, is above the one before it, `before` for the first, and not too high.
abbrev RisesAt : ℕ → List ℕ → ℕ → Type 0
RisesAt before rates place = (get_or (before ∷ rates) place 0 < get_or rates place 0) × (get_or rates place 0 ≤ 4095)

-- Judging finds the first place that does not rise.
found : (before start : ℕ) (rates : List ℕ) → Found (RisesAt before rates) (length rates) start (first_wrong before start rates)
found before start [] = λ k h. absurd (omega arith)
found before start (rate ∷ rates) =
    let P : ℕ → Type 0 = RisesAt before (rate ∷ rates) in
    cond_both (ltb before rate && leb rate 4095) (first_wrong rate (start + 1) rates) (Some start) (Found P (suc (length rates)) start)
    (λ good.
    let parts = and_parts _ _ good in
    found_later P (length rates) start (ltb-true _ _ parts.0, leb-true _ _ parts.1) _ (found rate (start + 1) rates))
    (λ wrong. found_first P (length rates) start (λ good. let low = good.0 in let high = good.1 in grind (arith, nat_tests)))

-- A place that rises is good, and the other way round.
good_where_rising : (rates : List ℕ) (place : ℕ) → RisesAt 0 rates place → Good rates place
good_where_rising rates zero (above, high) = record { positive = omega arith; limited = high; above = λ h. absurd (omega arith) }
good_where_rising rates (suc place) (above, high) = record { positive = omega arith; limited = high; above = λ _. simp sub-one above }

rising_where_good : (rates : List ℕ) (place : ℕ) → Good rates place → RisesAt 0 rates place
rising_where_good rates zero good = (good.positive, good.limited)
rising_where_good rates (suc place) good = (simp sub-one at (good.above (omega arith)), good.limited)

lawful_where_rising :
    (rates : List ℕ) → 1 ≤ length rates → length rates ≤ 16 → ((k : ℕ) → k < length rates → RisesAt 0 rates k) → Lawful rates
lawful_where_rising rates some few rises =
    record {
      some = some;
      few = few;
      positive = λ k h. (good_where_rising rates k (rises k h)).positive;
      limited = λ k h. (rises k h).1;
      rising = λ k h. rw add-one (rises (suc k) (omega arith)).0;
    }

rising_where_lawful : (rates : List ℕ) → Lawful rates → (k : ℕ) → k < length rates → RisesAt 0 rates k
rising_where_lawful rates lawful zero h = (lawful.positive 0 h, lawful.limited 0 h)
rising_where_lawful rates lawful (suc k) h =
    (rw add-one at (lawful.rising k (omega arith)), lawful.limited (suc k) h)

verdict_by_rate :
    (rates : List ℕ) → 1 ≤ length rates → length rates ≤ 16 → (o : Option ℕ) → Found (RisesAt 0 rates) (length rates) 0 o →
    Verdict rates (option_map (λ place. WrongRateAt place) o)
verdict_by_rate rates some few None rises = lawful_where_rising rates some few rises
verdict_by_rate rates some few (Some found) (place, is, within, rises, wrong) =
    let same : place ≡ found = omega arith in (
      subst (FirstWrong rates) same
          (record {
            some = some;
            few = few;
            within = within;
            before = λ k h. good_where_rising rates k (rises k h);
            wrong = λ good. wrong (rising_where_good rates place good);
          }),
      λ lawful. wrong (rising_where_lawful rates lawful place within),
    )

verdict_by_count : (rates : List ℕ) → (leb 1 (length rates) && leb (length rates) 16) ≡ false → Verdict rates (Some (WrongLevelCount (length rates)))
verdict_by_count rates wrong = (
  (
    refl,
    ⊎_elim (λ (none : leb 1 (length rates) ≡ false). inl (omega (arith, leb-false 1 (length rates) none))) (λ many. inr (leb-false (length rates) 16 many))
        (and_cases _ _ wrong),
  ),
  λ lawful. grind (arith, nat_tests),
)

-- A list is refused exactly when it is not lawful, and for what is first wrong with it.
pub verdict : (rates : List ℕ) → Verdict rates (judged rates)
verdict rates =
    cond_both (leb 1 (length rates) && leb (length rates) 16) _ _ (Verdict rates)
    (λ right.
    let parts = and_parts _ _ right in
    verdict_by_rate rates (leb-true _ _ parts.0) (leb-true _ _ parts.1) _ (found 0 0 rates))
    (verdict_by_count rates)

pub lawful_when_not_refused : (rates : List ℕ) → judged rates ≡ None → Lawful rates
lawful_when_not_refused rates judged-right = subst (Verdict rates) judged-right (verdict rates)

-- Every table that exists is lawful.
pub table_is_lawful : (table : RateTable) → Lawful (rates_of table)
table_is_lawful table =
    let levels : length (take table.count table.rates) ≡ table.count = length-take-le _ _ (omega arith) in
    record {
      some = omega arith;
      few = omega arith;
      positive = table.positive;
      limited = table.limited;
      rising = table.rising;
    }
