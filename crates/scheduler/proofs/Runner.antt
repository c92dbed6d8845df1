-- The job that ran in the tick before: its place, how many there are, and what setting it aside makes of the pending jobs.
use Rattle.std.proofs.Common.{◌≡◌, ℕ, zero, suc, ◌+◌, ◌<◌, ◌≤◌, Bool, true, false, cond, List, [], ◌∷◌, ◌++◌, map, length, get_or, set, Some, None, Option, sym, refl, ap, ◌∙◌, ⊎_elim, arith}
use Rattle.std.specs.List.{remove}
use Rattle.std.specs.Option.{option_map}
use Rattle.std.proofs.lemmas.List.{length-map}
use Rattle.std.proofs.lemmas.Bool.{cases_Bool, cond-true, cond-false, true≢false}
use Rattle.scheduler.specs.declared.job.Job.{Job}
use Rattle.scheduler.specs.declared.job.Stage.{Stage}
use Rattle.scheduler.specs.declared.job.Stage.TheVariants.{Waiting, Running, Aside}
use Rattle.runs.specs.SlowRun as slow
use Rattle.scheduler.specs.Day.{paced, runs, runner, set_aside, make_way}
use Rattle.scheduler.specs.Good.{running}
use Rattle.scheduler.specs.Places.{runner_place}
use Rattle.scheduler.proofs.Choosing.{dues}

-- A job that is set aside if it ran.
abbrev pub aside : ℕ → Job → Job
aside clock j =
    record {
      number = j.number;
      deadline = j.deadline;
      budget = j.budget;
      remaining = j.remaining;
      stage = set_aside clock j.stage;
    }

-- What holds where a job runs, and where it does not.
by_runs : {G : Type 0} (j : Job) → (runs j ≡ true → G) → (runs j ≡ false → G) → G
by_runs j run rest = ⊎_elim run rest (cases_Bool (runs j))

counts : (j : Job) (js : List Job) → runs j ≡ true → running (j ∷ js) ≡ 1 + running js
counts j js e = ap (λ n. n + running js) (cond-true (runs j) 1 0 e)

counts_not : (j : Job) (js : List Job) → runs j ≡ false → running (j ∷ js) ≡ running js
counts_not j js e = let none = ap (λ n. n + running js) (cond-false (runs j) 1 0 e) in omega arith

-- The number of the job that ran is that of the job at its place.
pub runner-number : (js : List Job) (d : Job) → runner js ≡ option_map (λ p. (get_or js p d).number) (runner_place js)
runner-number [] d = refl
runner-number (j ∷ js) d =
    ap (λ rest. cond (runs j) (Some j.number) rest) (runner-number js d) ∙ in-front (runs j) (runner_place js)
  where
    in-front :
        (b : Bool) (o : Option ℕ) →
        cond b (Some j.number) (option_map (λ p. (get_or js p d).number) o)
        ≡ option_map (λ p. (get_or (j ∷ js) p d).number) (cond b (Some 0) (option_map suc o))
    in-front true o = refl
    in-front false None = refl
    in-front false (Some p) = refl

some_behind : (o : Option ℕ) (p : ℕ) → option_map suc o ≡ Some p → (q : ℕ) × (o ≡ Some q) × (suc q ≡ p)
some_behind None p e = let z : ◌≡◌ {A = ℕ} 0 1 = cc in absurd (omega arith)
some_behind (Some q) p e = (q, refl, cc)

none_behind : (o : Option ℕ) → option_map suc o ≡ None → o ≡ None
none_behind None e = refl
none_behind (Some q) e = let z : ◌≡◌ {A = ℕ} 0 1 = cc in absurd (omega arith)

at_front : (j : Job) (js : List Job) → runs j ≡ true → runner_place (j ∷ js) ≡ Some 0
at_front j js r = cond-true (runs j) (Some 0) (option_map suc (runner_place js)) r

-- Behind a job that does not run, the runner is that of the others.
further : (j : Job) (js : List Job) → runs j ≡ false → runner_place (j ∷ js) ≡ option_map suc (runner_place js)
further j js r = cond-false (runs j) (Some 0) (option_map suc (runner_place js)) r

pub runner-within : (js : List Job) (p : ℕ) → runner_place js ≡ Some p → p < length js
runner-within [] p e = let z : ◌≡◌ {A = ℕ} 0 1 = cc in absurd (omega arith)
runner-within (j ∷ js) p e =
    by_runs j
    (λ r. let here : 0 ≡ p = let f = at_front j js r in cc in omega arith)
    (λ r.
    let behind = some_behind (runner_place js) p (sym (further j js r) ∙ e) in
    omega (arith, behind.2, runner-within js behind.0 behind.1))

pub nobody_runs : (js : List Job) → running js ≡ 0 → runner_place js ≡ None
nobody_runs [] e = refl
nobody_runs (j ∷ js) e =
    by_runs j
    (λ r. absurd (omega (arith, counts j js r)))
    (λ r. cond-false _ _ _ r ∙ ap (option_map suc) (nobody_runs js (omega (arith, counts_not j js r))))

somebody_counts : (js : List Job) (p : ℕ) (d : Job) → p < length js → runs (get_or js p d) ≡ true → 1 ≤ running js
somebody_counts [] p d within e = absurd (omega arith)
somebody_counts (j ∷ js) zero d within e = omega (arith, counts j js e)
somebody_counts (j ∷ js) (suc p) d within e = omega (arith, somebody_counts js p d (omega arith) e)

-- Where at most one job runs, the place of a job that runs is that of the runner.
pub runner-place_is :
    (js : List Job) (p : ℕ) (d : Job) → running js ≤ 1 → p < length js → runs (get_or js p d) ≡ true → runner_place js ≡ Some p
runner-place_is [] p d one within e = absurd (omega arith)
runner-place_is (j ∷ js) zero d one within e = cond-true _ _ _ e
runner-place_is (j ∷ js) (suc p) d one within e =
    by_runs j
    (λ r. absurd (omega (arith, counts j js r, somebody_counts js p d (omega arith) e)))
    (λ r. cond-false _ _ _ r ∙ ap (option_map suc) (runner-place_is js p d (omega (arith, counts_not j js r)) (omega arith) e))

pub runner-push : (js : List Job) (j : Job) → runs j ≡ false → runner_place (js ++ j ∷ []) ≡ runner_place js
runner-push [] j e = cond-false _ _ _ e
runner-push (k ∷ js) j e = ap (λ rest. cond (runs k) (Some 0) (option_map suc rest)) (runner-push js j e)

pub running-removed :
    (js : List Job) (p : ℕ) (d : Job) → p < length js → running (remove js p) + cond (runs (get_or js p d)) 1 0 ≡ running js
running-removed [] p d within = absurd (omega arith)
running-removed (j ∷ js) zero d within = omega arith
running-removed (j ∷ js) (suc p) d within = let rest = running-removed js p d (omega arith) in omega arith

stays : (clock : ℕ) (stage : Stage) → slow.runs (paced stage) ≡ false → set_aside clock stage ≡ stage
stays clock Waiting e = refl
stays clock (Running bound level) e = absurd (true≢false e)
stays clock (Aside bound noted) e = refl

-- A job that did not run stays as it is.
aside-stays : (clock : ℕ) (j : Job) → runs j ≡ false → aside clock j ≡ j
aside-stays clock j e =
    ap
    (λ stage. record { number = j.number; deadline = j.deadline; budget = j.budget; remaining = j.remaining; stage = stage })
    (stays clock j.stage e)

pub aside_none : (clock : ℕ) (js : List Job) → runner_place js ≡ None → map (aside clock) js ≡ js
aside_none clock [] e = refl
aside_none clock (j ∷ js) e =
    by_runs j
    (λ r. let z : ◌≡◌ {A = ℕ} 0 1 = let f = at_front j js r in cc in absurd (omega arith))
    (λ r.
    ap (λ k. k ∷ map (aside clock) js) (aside-stays clock j r)
    ∙ ap (λ rest. j ∷ rest) (aside_none clock js (none_behind (runner_place js) (sym (further j js r) ∙ e))))

-- Where at most one job runs, setting it aside changes the job at its place.
pub aside-one :
    (clock : ℕ) (js : List Job) (p : ℕ) (d : Job) → running js ≤ 1 → runner_place js ≡ Some p →
    map (aside clock) js ≡ set js p (aside clock (get_or js p d))
aside-one clock [] p d one e = let z : ◌≡◌ {A = ℕ} 0 1 = cc in absurd (omega arith)
aside-one clock (j ∷ js) p d one e =
    let changed : ℕ → List Job = λ n. set (j ∷ js) n (aside clock (get_or (j ∷ js) n d)) in
    by_runs j
    (λ r.
    let here : 0 ≡ p = let f = at_front j js r in cc in
    let alone = nobody_runs js (omega (arith, counts j js r)) in
    ap (λ rest. aside clock j ∷ rest) (aside_none clock js alone) ∙ ap changed here)
    (λ r.
    let behind = some_behind (runner_place js) p (sym (further j js r) ∙ e) in
    ap (λ k. k ∷ map (aside clock) js) (aside-stays clock j r)
    ∙ ap (λ rest. j ∷ rest) (aside-one clock js behind.0 d (omega (arith, counts_not j js r)) behind.1)
    ∙ ap changed behind.2)

still : (clock : ℕ) (stage : Stage) → slow.runs (paced (set_aside clock stage)) ≡ false
still clock Waiting = refl
still clock (Running bound level) = refl
still clock (Aside bound noted) = refl

-- Once they are set aside, nobody runs.
pub running-aside : (clock : ℕ) (js : List Job) → running (map (aside clock) js) ≡ 0
running-aside clock [] = refl
running-aside clock (j ∷ js) =
    counts_not (aside clock j) (map (aside clock) js) (still clock j.stage) ∙ running-aside clock js

dues-aside : (clock : ℕ) (js : List Job) → dues (map (aside clock) js) ≡ dues js
dues-aside clock [] = refl
dues-aside clock (j ∷ js) = ap (λ rest. j.deadline ∷ rest) (dues-aside clock js)

-- Making way leaves every deadline.
pub dues-make_way : (m : Job) (clock : ℕ) (js : List Job) → dues (make_way m clock js) ≡ dues js
dues-make_way m clock js =
    by_runs m
    (λ r. ap dues (cond-true (runs m) js (map (aside clock) js) r))
    (λ r. ap dues (cond-false (runs m) js (map (aside clock) js) r) ∙ dues-aside clock js)

-- For a job that did not run, the one that did is set aside, if there is one.
pub make_way_one :
    (m : Job) (clock : ℕ) (js : List Job) (p : ℕ) (j : Job) → runs m ≡ false → running js ≤ 1 → runner_place js ≡ Some p →
    j ≡ get_or js p j → make_way m clock js ≡ set js p (aside clock j)
make_way_one m clock js p j idle one at is =
    cond-false (runs m) js (map (aside clock) js) idle
    ∙ aside-one clock js p j one at
    ∙ ap (λ k. set js p (aside clock k)) (sym is)

pub make_way_none : (m : Job) (clock : ℕ) (js : List Job) → runs m ≡ false → runner_place js ≡ None → make_way m clock js ≡ js
make_way_none m clock js idle nobody = cond-false (runs m) js (map (aside clock) js) idle ∙ aside_none clock js nobody

-- Once way was made for a job at a place, and it is taken out, nobody runs.
pub running-without :
    (m : Job) (clock : ℕ) (js : List Job) (p : ℕ) → running js ≤ 1 → p < length js → m ≡ get_or js p m →
    running (remove (make_way m clock js) p) ≡ 0
running-without m clock js p one within is =
    by_runs m
    (λ r.
    let same = cond-true (runs m) js (map (aside clock) js) r in
    let left = running-removed js p m within in
    let counted : cond {A = ℕ} (runs (get_or js p m)) 1 0 ≡ 1 = cond-true _ _ _ (ap runs (sym is) ∙ r) in
    ap (λ ks. running (remove ks p)) same ∙ omega arith)
    (λ r.
    let same = cond-false (runs m) js (map (aside clock) js) r in
    let none = running-aside clock js in
    let long = length-map js (aside clock) in
    let left = running-removed (map (aside clock) js) p m (omega arith) in
    ap (λ ks. running (remove ks p)) same ∙ omega arith)
