-- An interval from a release to a deadline that no other such interval is before is the greatest of all intervals.
use Rattle.std.proofs.Common.{◌≡◌, ℕ, ◌-◌, ◌*◌, ◌<◌, ◌≤◌, max, false, ◌⊎◌, List, ◌∷◌, sym, refl, inl, inr, ⊎_elim, mul-le-mul, mul-le-mul_left, zero-mul, le_of_mul-le-mul_right, arith}
use native.Mathlib.Nat.{le_of_mul-le-mul_left}
use Rattle.std.proofs.lemmas.Bool.{cases_lt}
use Rattle.cues.specs.declared.load.Load.{Load}
use Rattle.cues.specs.Demand.{Job, demand}
use Rattle.cues.specs.Loading.{SomeJob, Greatest}
use Rattle.cues.specs.Orders.{candidate_before}
use Rattle.cues.specs.CandidateOrder.{not_before}
use Rattle.cues.proofs.Intervals.{Timely, no_demand, own_demand, shrinks}

-- The candidate that an interval is.
abbrev pub interval : List Job → ℕ → ℕ → Load
interval js x y = record { demand = demand js x y; length = y - x; start = x; end = y }

-- A product of positive numbers is positive.
positive_product : (m n : ℕ) → 0 < m → 0 < n → 0 < m * n
positive_product m n p q =
    let least : 1 * 1 ≤ m * n = mul-le-mul {n₁ = 1} {m₁ = 1} (omega arith) (omega arith) in
    omega arith

module _ (j : Job) (others : List Job) (timely : Timely (j ∷ others)) (best : Load)
    (starts : SomeJob (λ i. i.release ≡ best.start) (j ∷ others))
    (ends : SomeJob (λ i. i.deadline ≡ best.end) (j ∷ others))
    (long : best.length ≡ best.end - best.start)
    (short : best.demand ≤ demand (j ∷ others) best.start best.end)
    (unbeaten : (x y : ℕ) → x < y → SomeJob (λ i. i.release ≡ x) (j ∷ others) → SomeJob (λ i. i.deadline ≡ y) (j ∷ others) → candidate_before (interval (j ∷ others) x y) best ≡ false)
  where
    abbrev js : List Job
    js = j ∷ others

    has-work : 0 < best.demand
    has-work =
        let own = own_demand j others in
        let some = timely.0.1 in
        let least = positive_product (demand js j.release j.deadline) (max best.length 1) (omega arith) (omega arith) in
        let ratio = (not_before (interval js j.release j.deadline) best (unbeaten j.release j.deadline timely.0.0 (0, omega arith, λ d. refl) (0, omega arith, λ d. refl))).0 in
        ⊎_elim
        (λ p. p)
        (λ (none : best.demand ≤ 0).
        let zero_is : best.demand ≡ 0 = omega arith in
        let gone : best.demand * max (j.deadline - j.release) 1 ≡ 0 = rw zero_is (zero-mul (max (j.deadline - j.release) 1)) in
        absurd (omega arith))
        (cases_lt 0 best.demand)

    rising : best.start < best.end
    rising =
        let some = has-work in
        ⊎_elim
        (λ p. p)
        (λ (empty : best.end ≤ best.start). let none = no_demand js best.start best.end timely empty in absurd (omega arith))
        (cases_lt best.start best.end)

    -- what no other candidate beats, at the length that is there
    ratio : (x y : ℕ) → SomeJob (λ i. i.release ≡ x) js → SomeJob (λ i. i.deadline ≡ y) js → x < y
        → (demand js x y * best.length ≤ best.demand * (y - x))
        × (demand js x y * best.length ≡ best.demand * (y - x) → (best.start ≤ x) × (best.start ≡ x → best.end ≤ y))
    ratio x y s e lt =
        let far = rising in
        let own-span : max best.length 1 ≡ best.length = omega arith in
        let span-is : max (y - x) 1 ≡ y - x = omega arith in
        rw (own-span, span-is) at (not_before (interval js x y) best (unbeaten x y lt s e))

    -- whatever interval, none has a greater demand for its length
    shrunk : (x y : ℕ) → x < y → 0 < demand js x y
        → (demand js x y * best.length ≤ best.demand * (y - x))
        × (demand js x y * best.length ≡ best.demand * (y - x) → (best.start < x) ⊎ ((best.start ≡ x) × (best.end ≤ y)))
    shrunk x y lt some =
        let inner = shrinks js timely x y some in
        let a = inner.0 in
        let b = inner.1 in
        let within = inner.4 in
        let upto = inner.5 in
        let same : demand js a b ≡ demand js x y = inner.6 in
        let apart : a < b =
        ⊎_elim (λ p. p) (λ (empty : b ≤ a). let none = no_demand js a b timely empty in absurd (omega arith)) (cases_lt a b) in
        let held = rw same at (ratio a b inner.2 inner.3 apart) in
        let wider : best.demand * (b - a) ≤ best.demand * (y - x) = mul-le-mul_left best.demand (omega arith) in
        let below = held.0 in (
          omega arith,
          λ level.
              let less : best.demand * (y - x) ≤ best.demand * (b - a) = omega arith in
              let whole : y - x ≤ b - a = le_of_mul-le-mul_left less has-work in
              let tie = held.1 (omega arith) in
              let no-later = tie.0 in
              ⊎_elim
              (λ p. inl p)
              (λ (same_start : x ≤ best.start). inr (omega arith, let ends_first = tie.1 (omega arith) in omega arith))
              (cases_lt best.start x),
        )

    demanded : best.demand ≡ demand js best.start best.end
    demanded =
        let far = rising in
        let own = (ratio best.start best.end starts ends far).0 in
        let whole : demand js best.start best.end ≤ best.demand =
        le_of_mul-le-mul_right (rw (sym long) at own) (omega arith) in
        omega arith

    pub greatest-from-unbeaten : Greatest js best.demand best.length best.start best.end
    greatest-from-unbeaten =
        record {
          starts = starts;
          ends = ends;
          rising = rising;
          long = long;
          demands = demanded;
          greatest = λ x y lt.
              ⊎_elim
              (λ some. (shrunk x y lt some).0)
              (λ (none : demand js x y ≤ 0).
              let zero_is : demand js x y ≡ 0 = omega arith in
              let gone : demand js x y * best.length ≡ 0 = rw zero_is (zero-mul best.length) in
              omega arith)
              (cases_lt 0 (demand js x y));
          first = λ x y lt level.
              ⊎_elim
              (λ some. (shrunk x y lt some).1 level)
              (λ (none : demand js x y ≤ 0).
              let zero_is : demand js x y ≡ 0 = omega arith in
              let gone : demand js x y * best.length ≡ 0 = rw zero_is (zero-mul best.length) in
              let least = positive_product best.demand (y - x) has-work (omega arith) in
              absurd (omega arith))
              (cases_lt 0 (demand js x y));
        }
