-- The place of the smallest number of a list: what it is, and that nothing else is.
use Rattle.std.proofs.Common.{◌≡◌, ℕ, zero, suc, ◌<◌, ◌≤◌, cond, ltb, leb, List, [], ◌∷◌, ◌++◌, length, get_or, sym, refl, subst, ⊎_elim, arith}
use Rattle.std.proofs.lemmas.List.{get_or_default, get_or_append_left, get_or_push, length_push}
use Rattle.std.proofs.lemmas.Bool.{cases_lt, cases_order, cond_both, leb-true, leb-false, ltb-true, ltb-false}
use Rattle.scheduler.specs.Places.{smallest_place}

-- A smallest number of the list stands at p, and those before it are larger.
pub record Smallest (ns : List ℕ) (p : ℕ) : Type 0 where
  pub within : p < length ns
  pub least : (k : ℕ) → k < length ns → get_or ns p 0 ≤ get_or ns k 0
  pub earliest : (k : ℕ) → k < p → get_or ns p 0 < get_or ns k 0

-- There is one such place.
pub smallest_one : (ns : List ℕ) (p q : ℕ) → Smallest ns p → Smallest ns q → p ≡ q
smallest_one ns p q s t =
    ⊎_elim (λ e. e)
    (λ apart.
    ⊎_elim
    (λ (l : p < q). absurd (omega (arith, t.earliest p l, s.least q t.within)))
    (λ (l : q < p). absurd (omega (arith, s.earliest q l, t.least p s.within)))
    apart)
    (cases_order p q)

here : (n : ℕ) (ns : List ℕ) → ((k : ℕ) → k < length ns → n ≤ get_or ns k 0) → Smallest (n ∷ ns) 0
here n ns rest =
    record {
      within = omega arith;
      least = λ k l. least k l;
      earliest = λ k l. absurd (omega arith);
    }
  where
    least : (k : ℕ) → k < suc (length ns) → n ≤ get_or (n ∷ ns) k 0
    least zero l = omega arith
    least (suc k) l = rest k (omega arith)

behind : (n : ℕ) (ns : List ℕ) (p : ℕ) → get_or ns p 0 < n → Smallest ns p → Smallest (n ∷ ns) (suc p)
behind n ns p less s =
    record { within = omega (arith, s.within); least = least; earliest = earliest }
  where
    least : (k : ℕ) → k < suc (length ns) → get_or ns p 0 ≤ get_or (n ∷ ns) k 0
    least zero l = omega arith
    least (suc k) l = s.least k (omega arith)

    earliest : (k : ℕ) → k < suc p → get_or ns p 0 < get_or (n ∷ ns) k 0
    earliest zero l = less
    earliest (suc k) l = s.earliest k (omega arith)

pub smallest_is : (n : ℕ) (ns : List ℕ) → Smallest (n ∷ ns) (smallest_place (n ∷ ns))
smallest_is n [] =
    cond_both (leb n n) 0 1 (Smallest (n ∷ []))
    (λ _. here n [] (λ k l. absurd (omega arith)))
    (λ e. absurd (omega (arith, leb-false n n e)))
smallest_is n (m ∷ ns) =
    let p = smallest_place (m ∷ ns) in
    let rest = smallest_is m ns in
    let same : get_or (m ∷ ns) p n ≡ get_or (m ∷ ns) p 0 = get_or_default (m ∷ ns) p n 0 rest.within in
    cond_both (leb n (get_or (m ∷ ns) p n)) 0 (suc p) (Smallest (n ∷ (m ∷ ns)))
    (λ e. here n (m ∷ ns) (λ k l. omega (arith, leb-true n (get_or (m ∷ ns) p n) e, rest.least k l)))
    (λ e. behind n (m ∷ ns) p (omega (arith, leb-false n (get_or (m ∷ ns) p n) e)) rest)

pub smallest_found : (ns : List ℕ) → 0 < length ns → Smallest ns (smallest_place ns)
smallest_found [] some = absurd (omega arith)
smallest_found (n ∷ ns) some = smallest_is n ns

pub smallest_place_is : (ns : List ℕ) (p : ℕ) → Smallest ns p → smallest_place ns ≡ p
smallest_place_is ns p s = smallest_one ns (smallest_place ns) p (smallest_found ns (omega (arith, s.within))) s

-- With one number more behind the others: that one only if it is smaller than all of them.
pub smallest_push :
    (ns : List ℕ) (n : ℕ) → 0 < length ns →
    smallest_place (ns ++ n ∷ []) ≡ cond (ltb n (get_or ns (smallest_place ns) 0)) (length ns) (smallest_place ns)
smallest_push ns n some =
    let p = smallest_place ns in
    let old = smallest_found ns some in
    let long = length_push ns n in
    cond_both (ltb n (get_or ns p 0)) (length ns) p (λ q. smallest_place (ns ++ n ∷ []) ≡ q)
    (λ e.
    let less = ltb-true n (get_or ns p 0) e in
    smallest_place_is (ns ++ n ∷ []) (length ns)
    (record {
      within = omega arith;
      least = λ k l. rw last (pushed k (λ m. n ≤ m) l (λ b. omega (arith, old.least k b)) (omega arith));
      earliest = λ k l. rw (last, get_or_append_left ns (n ∷ []) 0 k l) (omega (arith, old.least k l));
    }))
    (λ e.
    let more = ltb-false n (get_or ns p 0) e in
    let same : get_or (ns ++ n ∷ []) p 0 ≡ get_or ns p 0 = get_or_append_left ns (n ∷ []) 0 p old.within in
    smallest_place_is (ns ++ n ∷ []) p
    (record {
      within = omega (arith, old.within);
      least = λ k l. rw same (pushed k (λ m. get_or ns p 0 ≤ m) l (λ b. old.least k b) more);
      earliest = λ k l. rw (same, get_or_append_left ns (n ∷ []) 0 k (omega (arith, old.within))) (old.earliest k l);
    }))
  where
    last : get_or (ns ++ n ∷ []) (length ns) 0 ≡ n
    last = get_or_push ns n 0 (length ns) refl

    pushed : (k : ℕ) (P : ℕ → Type 0) → k < length (ns ++ n ∷ []) → (k < length ns → P (get_or ns k 0)) → P n → P (get_or (ns ++ n ∷ []) k 0)
    pushed k P l low new =
        ⊎_elim
        (λ (before : k < length ns). subst P (sym (get_or_append_left ns (n ∷ []) 0 k before)) (low before))
        (λ (not_before : length ns ≤ k). subst P (sym (get_or_push ns n 0 k (omega (arith, length_push ns n)))) new)
        (cases_lt k (length ns))
