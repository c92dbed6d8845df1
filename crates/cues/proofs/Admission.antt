-- What the loading factor decides: the list is feasible where its demand is at most its length.
use Rattle.std.proofs.Common.{ℕ, ◌-◌, ◌*◌, ◌≤◌, List, [], ◌∷◌, mul-le-mul_right, mul_comm, le_of_mul-le-mul_right, arith}
use Rattle.cues.specs.Demand.{Job, demand, Feasible}
use Rattle.cues.specs.Loading.{Loading}

-- Where the greatest demand is at most its length, no interval demands more than it has.
pub feasible_from_loading : (js : List Job) (d l a b : ℕ) → Loading js d l a b → d ≤ l → Feasible js
feasible_from_loading [] d l a b factor fits = λ x y lt. omega arith
feasible_from_loading (j ∷ js) d l a b factor fits = λ x y lt.
    let most = factor.greatest x y lt in
    let within : d * (y - x) ≤ l * (y - x) = mul-le-mul_right (y - x) fits in
    let far = factor.rising in
    let long = factor.long in
    let scaled : demand (j ∷ js) x y * l ≤ (y - x) * l = omega (arith, mul_comm l (y - x)) in
    le_of_mul-le-mul_right scaled (omega arith)
