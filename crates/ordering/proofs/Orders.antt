-- Lawful orders to build others from: by a number, and by one order where another ties.
use Rattle.std.proofs.Common.{◌≡◌, ℕ, Bool, true, false, not, ◌&&◌, ◌||◌, eqb, ltb, sym, refl, ◌∙◌, ⊎_elim, arith}
use Rattle.std.proofs.lemmas.Bool.Decides.{nat_tests}
use Rattle.std.proofs.lemmas.Bool.{both_ways, cases_Bool, or_cases, or_parts, or_left, or_right, or_from, and_parts, and_from, and_left, and_right}
use Rattle.ordering.specs.Lawful.{Lawful}
use Rattle.ordering.proofs.Lawful.{tied-not-behind, apart-behind}

-- The smaller key is before.
pub by_number : {X : Type 0} (key : X → ℕ) → Lawful (λ x y. ltb (key x) (key y)) (λ x y. eqb (key x) (key y))
by_number key =
    record {
      one_way = λ x y p. grind (arith, nat_tests);
      apart = λ x y p. grind (arith, nat_tests);
      tied = λ x y p q. grind (arith, nat_tests);
      onward = λ x y z p q. grind (arith, nat_tests);
      ahead = λ x y z p. grind (arith, nat_tests);
      behind = λ x y z p. grind (arith, nat_tests);
    }

module _ {X : Type 0} {before equal : X → X → Bool} (o : Lawful before equal) where
  -- equal keys are those of which neither is before the other
  equal_is : (x y : X) → equal x y ≡ (not (before x y) && not (before y x))
  equal_is x y =
      let forth = o.apart x y in
      let back = apart-behind o x y in
      let level = o.tied x y in
      ⊎_elim
      (λ (p : before x y ≡ true). rw p (forth p))
      (λ (p : before x y ≡ false). ⊎_elim (λ (q : before y x ≡ true). rw (p, q) (back q)) (λ (q : before y x ≡ false). rw (p, q) (level p q)) (cases_Bool (before y x)))
      (cases_Bool (before x y))

  equal-ahead : (x y z : X) → equal x y ≡ true → equal x z ≡ equal y z
  equal-ahead x y z e = rw (equal_is x z, equal_is y z, o.ahead x y z e, o.behind x y z e)

  equal-behind : (x y z : X) → equal x y ≡ true → equal z x ≡ equal z y
  equal-behind x y z e = rw (equal_is z x, equal_is z y, o.ahead x y z e, o.behind x y z e)

  equal-onward : (x y z : X) → equal x y ≡ true → equal y z ≡ true → equal x z ≡ true
  equal-onward x y z p q = equal-ahead x y z p ∙ q

-- the other part of a conjunction that fails
other_fails : (s t : Bool) → (s && t) ≡ false → s ≡ true → t ≡ false
other_fails true t e p = e
other_fails false t e p = absurd (both_ways false refl p)

-- Where the first order ties, the second decides.
module _ {X : Type 0} {before equal next level : X → X → Bool} (o : Lawful before equal) (t : Lawful next level) where
  abbrev ahead_of : X → X → Bool
  ahead_of x y = before x y || (equal x y && next x y)

  -- what holds where the first order decides, and where it ties and the second does
  by_order : {G : Type 0} (x y : X) → ahead_of x y ≡ true → (before x y ≡ true → G) → (equal x y ≡ true → next x y ≡ true → G) → G
  by_order x y h f s =
      ⊎_elim f (λ e. let both = and_parts (equal x y) (next x y) e in s both.0 both.1) (or_cases (before x y) (equal x y && next x y) h)

  lexical-one-way : (x y : X) → ahead_of x y ≡ true → ahead_of y x ≡ false
  lexical-one-way x y h =
      by_order x y h
      (λ p. or_from (before y x) (equal y x && next y x) (o.one_way x y p) (and_left (equal y x) (next y x) (apart-behind o y x p)))
      (λ e p. or_from (before y x) (equal y x && next y x) (tied-not-behind o x y e) (and_right (equal y x) (next y x) (t.one_way x y p)))

  lexical-apart : (x y : X) → ahead_of x y ≡ true → (equal x y && level x y) ≡ false
  lexical-apart x y h =
      by_order x y h
      (λ p. and_left (equal x y) (level x y) (o.apart x y p))
      (λ e p. and_right (equal x y) (level x y) (t.apart x y p))

  lexical-tied : (x y : X) → ahead_of x y ≡ false → ahead_of y x ≡ false → (equal x y && level x y) ≡ true
  lexical-tied x y p q =
      let forth = or_parts (before x y) (equal x y && next x y) p in
      let back = or_parts (before y x) (equal y x && next y x) q in
      let same = o.tied x y forth.0 back.0 in
      let same_back = o.tied y x back.0 forth.0 in
      and_from (equal x y) (level x y) same
      (t.tied x y (other_fails (equal x y) (next x y) forth.1 same) (other_fails (equal y x) (next y x) back.1 same_back))

  lexical-onward : (x y z : X) → ahead_of x y ≡ true → ahead_of y z ≡ true → ahead_of x z ≡ true
  lexical-onward x y z h k =
      let decided : before x z ≡ true → ahead_of x z ≡ true = or_left (before x z) (equal x z && next x z) in
      by_order x y h
      (λ p. by_order y z k
      (λ q. decided (o.onward x y z p q))
      (λ e q. decided (sym (o.behind y z x e) ∙ p)))
      (λ e p. by_order y z k
      (λ q. decided (o.ahead x y z e ∙ q))
      (λ f q. or_right (before x z) (equal x z && next x z) (and_from (equal x z) (next x z) (equal-onward o x y z e f) (t.onward x y z p q))))

  lexical-ahead : (x y z : X) → (equal x y && level x y) ≡ true → ahead_of x z ≡ ahead_of y z
  lexical-ahead x y z h =
      let both = and_parts (equal x y) (level x y) h in
      rw (o.ahead x y z both.0, equal-ahead o x y z both.0, t.ahead x y z both.1)

  lexical-behind : (x y z : X) → (equal x y && level x y) ≡ true → ahead_of z x ≡ ahead_of z y
  lexical-behind x y z h =
      let both = and_parts (equal x y) (level x y) h in
      rw (o.behind x y z both.0, equal-behind o x y z both.0, t.behind x y z both.1)

  pub lexical : Lawful (λ x y. before x y || (equal x y && next x y)) (λ x y. equal x y && level x y)
  lexical =
      record {
        one_way = lexical-one-way;
        apart = lexical-apart;
        tied = lexical-tied;
        onward = lexical-onward;
        ahead = lexical-ahead;
        behind = lexical-behind;
      }
