-- What a lawful order is.
use Rattle.std.specs.Prelude.{◌≡◌, Bool, true, false}

-- Of two records exactly one is before the other, or their keys are equal; before is transitive; records of equal keys stand alike to every other.
pub record Lawful {X : Type 0} (before equal : X → X → Bool) : Type 0 where
  pub one_way : (x y : X) → before x y ≡ true → before y x ≡ false
  pub apart : (x y : X) → before x y ≡ true → equal x y ≡ false
  pub tied : (x y : X) → before x y ≡ false → before y x ≡ false → equal x y ≡ true
  pub onward : (x y z : X) → before x y ≡ true → before y z ≡ true → before x z ≡ true
  pub ahead : (x y z : X) → equal x y ≡ true → before x z ≡ before y z
  pub behind : (x y z : X) → equal x y ≡ true → before z x ≡ before z y
