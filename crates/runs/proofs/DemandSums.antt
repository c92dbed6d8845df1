-- The demand of an interval as a job is added, and as a sum over the rows of a run; with a few facts about sums and lists.
use Rattle.std.proofs.Common.{◌≡◌, ℕ, ◌+◌, ◌≤◌, cond, ◌⊎◌, List, [], ◌∷◌, ◌++◌, map, sum_by, refl, subst, inl, inr, ⊎_elim, arith}
use Rattle.std.specs.List.{ContainsAt, AllByRecursion}
use Rattle.std.proofs.ByRecursion.{all_has_itself}
use Rattle.std.proofs.lemmas.List.Sums.{sum_by-cons, get_or-le-sum_by}
use Rattle.cues.specs.Demand.{Job, inside, demand, Overloaded}
use Rattle.runs.specs.ReferenceRun.{Row}

-- The part of a job in the demand of [a, b).
abbrev budget_inside : ℕ → ℕ → Job → ℕ
budget_inside a b j = cond (inside a b j) j.budget 0

pub demand-push : (js : List Job) (j : Job) (a b : ℕ) → demand (js ++ j ∷ []) a b ≡ demand js a b + budget_inside a b j
demand-push [] j a b = omega arith
demand-push (i ∷ js) j a b = omega (arith, demand-push js j a b)

-- An overload stays when a job is added.
pub overloaded_push : (js : List Job) (j : Job) → Overloaded js → Overloaded (js ++ j ∷ [])
overloaded_push js j (a, b, some, more) = (a, b, some, omega (arith, demand-push js j a b))

pub demand-of_rows : (rows : List Row) (a b : ℕ) → demand (map (λ r. r.job) rows) a b ≡ sum_by (λ r. budget_inside a b r.job) rows
demand-of_rows [] a b = refl
demand-of_rows (r ∷ rows) a b = omega (arith, demand-of_rows rows a b, sum_by-cons (λ r. budget_inside a b r.job) r rows)

module _ {X : Type 0} where
  -- Each element has its part in a sum over all.
  pub part-of-sum : (f : X → ℕ) (xs : List X) (x : X) → ContainsAt xs x → f x ≤ sum_by f xs
  part-of-sum f xs x (place, stands, there) = subst (λ y. f y ≤ sum_by f xs) (there x) (get_or-le-sum_by f xs place x stands)

  -- Sums compare as their parts do.
  pub sum_mono : (f g : X → ℕ) (xs : List X) → AllByRecursion (λ x. f x ≤ g x) xs → sum_by f xs ≤ sum_by g xs
  sum_mono f g [] all = omega arith
  sum_mono f g (x ∷ xs) (one, all) = omega (arith, sum_by-cons f x xs, sum_by-cons g x xs, sum_mono f g xs all)

  pub sum-none : (f : X → ℕ) (xs : List X) → AllByRecursion (λ x. f x ≡ 0) xs → sum_by f xs ≡ 0
  sum-none f [] all = refl
  sum-none f (x ∷ xs) (one, all) = omega (arith, sum_by-cons f x xs, sum-none f xs all)

  -- AllByRecursion pass, or some element does not.
  pub all-or-some : (P Q : X → Type 0) → ((x : X) → P x ⊎ Q x) → (xs : List X) → AllByRecursion P xs ⊎ ((x : X) × ContainsAt xs x × Q x)
  all-or-some P Q either xs = go xs (all_has_itself xs)
    where
      go : (rest : List X) → AllByRecursion (ContainsAt xs) rest → AllByRecursion P rest ⊎ ((x : X) × ContainsAt xs x × Q x)
      go [] has = inl tt
      go (x ∷ rest) (here, has) =
          ⊎_elim (λ p. ⊎_elim (λ all. inl (p, all)) inr (go rest has)) (λ q. inr (x, here, q)) (either x)
