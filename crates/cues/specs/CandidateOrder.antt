-- The order of interval candidates: it is lawful, and what it says of one that is not before another.
use Rattle.std.specs.Prelude.{◌≡◌, ℕ, ◌*◌, ◌≤◌, false, ◌&&◌, ◌||◌, ◌==◌, nat_lt}
use Rattle.std.proofs.Common.{arith}
use Rattle.std.proofs.lemmas.Bool.Decides.{nat_tests}
use Rattle.ordering.specs.Lawful.{Lawful}
use Rattle.ordering.proofs.Orders.{by_number, lexical}
use Rattle.cues.specs.declared.load.Load.{Load}
use Rattle.cues.specs.Orders.{span, candidate_before, candidate_equal}
use Rattle.cues.specs.Ratio.{larger-first}

pub candidate_lawful : Lawful candidate_before candidate_equal
candidate_lawful =
    lexical (larger-first (λ x. x.demand) span (λ x. omega arith)) (lexical (by_number (λ x. x.start)) (by_number (λ x. x.end)))

not_before_parts : (m n s t u v : ℕ) → (nat_lt n m || (n == m && (nat_lt s t || (s == t && nat_lt u v)))) ≡ false → (m ≤ n) × (m ≡ n → (t ≤ s) × (t ≡ s → v ≤ u))
not_before_parts m n s t u v h = (grind (arith, nat_tests), λ e. (grind (arith, nat_tests), λ f. grind (arith, nat_tests)))

-- A candidate that is not before another has no larger ratio; of the same ratio it starts no earlier, and of the same start it ends no earlier.
pub not_before : (x y : Load) → candidate_before x y ≡ false
    → (x.demand * span y ≤ y.demand * span x) × (x.demand * span y ≡ y.demand * span x → (y.start ≤ x.start) × (y.start ≡ x.start → y.end ≤ x.end))
not_before x y h = not_before_parts (x.demand * span y) (y.demand * span x) x.start y.start x.end y.end h
