-- Fractions over positive lengths, compared by cross-multiplication, are in a lawful order: the larger is before.
use Rattle.std.specs.Prelude.{◌≡◌, ℕ, ◌*◌, ◌<◌, ◌≤◌, ltb, nat_eq, nat_lt}
use Rattle.std.proofs.Common.{mul_right_comm, mul-le-mul_right, mul-lt-mul_of_pos_right, lt_of_mul-lt-mul_right, arith}
use Rattle.std.proofs.lemmas.Bool.Decides.{nat_tests}
use Rattle.std.proofs.lemmas.Bool.{ltb-true, lt-ltb, eqb-true}
use Rattle.ordering.specs.Lawful.{Lawful}

same_test : (a b c d : ℕ) → (a < b → c < d) → (c < d → a < b) → nat_lt a b ≡ nat_lt c d
same_test a b c d f g = grind (arith, nat_tests)

module _ {X : Type 0} (top bottom : X → ℕ) (positive : (x : X) → 0 < bottom x) where
  -- x is at least y, and y larger than z
  weak-strict : (x y z : X) → top y * bottom x ≤ top x * bottom y → top z * bottom y < top y * bottom z → top z * bottom x < top x * bottom z
  weak-strict x y z h q =
      let first = mul-lt-mul_of_pos_right q (positive x) in
      let second = mul-le-mul_right (bottom z) h in
      let scaled : top z * bottom x * bottom y < top x * bottom z * bottom y =
      rw (mul_right_comm (top z) (bottom x) (bottom y), mul_right_comm (top x) (bottom z) (bottom y))
      (omega (arith, mul_right_comm (top y) (bottom z) (bottom x))) in
      lt_of_mul-lt-mul_right (bottom y) scaled

  -- x is larger than y, and y at least z
  strict-weak : (x y z : X) → top y * bottom x < top x * bottom y → top z * bottom y ≤ top y * bottom z → top z * bottom x < top x * bottom z
  strict-weak x y z p h =
      let first = mul-le-mul_right (bottom x) h in
      let second = mul-lt-mul_of_pos_right p (positive z) in
      let scaled : top z * bottom x * bottom y < top x * bottom z * bottom y =
      rw (mul_right_comm (top z) (bottom x) (bottom y), mul_right_comm (top x) (bottom z) (bottom y))
      (omega (arith, mul_right_comm (top y) (bottom z) (bottom x))) in
      lt_of_mul-lt-mul_right (bottom y) scaled

  pub larger-first : Lawful (λ x y. ltb (top y * bottom x) (top x * bottom y)) (λ x y. nat_eq (top y * bottom x) (top x * bottom y))
  larger-first =
      record {
        one_way = λ x y p. grind (arith, nat_tests);
        apart = λ x y p. grind (arith, nat_tests);
        tied = λ x y p q. grind (arith, nat_tests);
        onward = λ x y z p q.
            let second = ltb-true (top z * bottom y) (top y * bottom z) q in
            lt-ltb (top z * bottom x) (top x * bottom z) (strict-weak x y z (ltb-true (top y * bottom x) (top x * bottom y) p) (omega arith));
        ahead = λ x y z e.
            let level = eqb-true (top y * bottom x) (top x * bottom y) e in
            same_test (top z * bottom x) (top x * bottom z) (top z * bottom y) (top y * bottom z)
            (weak-strict y x z (omega arith))
            (weak-strict x y z (omega arith));
        behind = λ x y z e.
            let level = eqb-true (top y * bottom x) (top x * bottom y) e in
            same_test (top x * bottom z) (top z * bottom x) (top y * bottom z) (top z * bottom y)
            (λ p. strict-weak z x y p (omega arith))
            (λ p. strict-weak z y x p (omega arith));
      }
