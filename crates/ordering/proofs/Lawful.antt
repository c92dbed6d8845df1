-- What the laws of an order give: its test ranks.
use Rattle.std.proofs.Common.{◌≡◌, Bool, true, false, sym, ◌∙◌, ⊎_elim}
use Rattle.std.specs.Cmp.{IsStrictWeakOrder}
use Rattle.std.proofs.lemmas.Bool.{both_ways, cases_Bool}
use Rattle.ordering.specs.Lawful.{Lawful}

module _ {X : Type 0} {before equal : X → X → Bool} (o : Lawful before equal) where
  -- no record is before itself
  pub not-before-itself : (x : X) → before x x ≡ false
  not-before-itself x =
      ⊎_elim (λ e. o.one_way x x e) (λ e. e) (cases_Bool (before x x))

  -- of two records with equal keys the second is not before the first
  pub tied-not-behind : (x y : X) → equal x y ≡ true → before y x ≡ false
  tied-not-behind x y e = sym (o.ahead x y x e) ∙ not-before-itself x

  -- a record that is before x has no key equal to x's
  pub apart-behind : (x y : X) → before y x ≡ true → equal x y ≡ false
  apart-behind x y lt =
      ⊎_elim
      (λ e. absurd (both_ways (before y x) (tied-not-behind x y e) lt))
      (λ e. e)
      (cases_Bool (equal x y))

  -- what is not before y, where y is not before z, is not before z
  not-before-onward : (x y z : X) → before x y ≡ false → before y z ≡ false → before x z ≡ false
  not-before-onward x y z p q =
      ⊎_elim
      (λ (lt : before x z ≡ true).
      ⊎_elim
      (λ (e : before y x ≡ true). absurd (both_ways (before y z) q (o.onward y x z e lt)))
      (λ (e : before y x ≡ false). o.ahead x y z (o.tied x y p e) ∙ q)
      (cases_Bool (before y x)))
      (λ e. e)
      (cases_Bool (before x z))

  pub order-ranks : IsStrictWeakOrder before
  order-ranks = record { one_way = o.one_way; chain = not-before-onward }
