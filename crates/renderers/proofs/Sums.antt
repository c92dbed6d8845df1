-- How the summed rates of a job grow over a run of requests.
use Rattle.std.proofs.Common.{◌≡◌, ℕ, ◌+◌, ◌-◌, ◌<◌, ◌≤◌, min, cond, eqb, ◌≢◌, ◌⊎◌, List, [], ◌∷◌, ◌++◌, length, sym, refl, ap, ◌∙◌, inl, inr, ⊎_elim, add-zero, zero-add, arith}
use Rattle.std.proofs.lemmas.List.{get_or-set_same, get_or-set_other}
use Rattle.std.proofs.lemmas.Bool.{cases_eq, cases_lt, le-leb, lt-leb, eq-eqb, ne_eqb}
use Rattle.renderers.specs.declared.play.Play.{Play}
use Rattle.renderers.specs.Sheet.{fresh_play, grown, says, play_of, with_play, Played, Request, summed_rates, FinishedWhenReached}
use Rattle.renderers.proofs.Plays.{no_cue_no_units, no_cue_no_play}

-- two ticks sum up
grown-twice : (play : Play) (a b : ℕ) → grown (grown play a) b ≡ grown play (a + b)
grown-twice play a b =
    let held : min (min (play.summed + a) 268435455 + b) 268435455 ≡ min (play.summed + (a + b)) 268435455 = omega arith in
    ap (λ n. record { actual = play.actual; summed = n }) held

-- the play that is put for a job is that job's
play_of_same : (plays : List Play) (job : ℕ) (play : Play) → 1 ≤ job → job ≤ length plays → play_of (with_play plays job play) job ≡ play
play_of_same plays job play some few =
    rw (le-leb 1 job some) (get_or-set_same plays (job - 1) play (fresh_play 0) (omega arith))

-- every other job keeps its own
play_of_other : (plays : List Play) (job other : ℕ) (play : Play) → (other ≡ job → ⊥) → play_of (with_play plays other play) job ≡ play_of plays job
play_of_other plays job other play apart =
    ⊎_elim
    (λ (none : job < 1). rw (lt-leb 1 job none))
    (λ (some : 1 ≤ job).
    ⊎_elim
    (λ (none : other < 1). rw (lt-leb 1 other none))
    (λ (also : 1 ≤ other).
    let elsewhere : (job - 1) ≢ (other - 1) = λ same. apart (omega arith) in
    rw (le-leb 1 job some, le-leb 1 other also) (get_or-set_other plays (other - 1) (job - 1) play (fresh_play 0) elsewhere))
    (cases_lt other 1))
    (cases_lt job 1)

-- a job without a cue is running whatever its rates
running-without_cue : (plays : List Play) (job a b : ℕ) → (job ≡ 0) ⊎ (length plays < job) → says (grown (play_of plays job) a) ≡ says (grown (play_of plays job) b)
running-without_cue plays job a b none =
    let units = no_cue_no_units plays job none in
    ap (λ play. says (grown play a)) units ∙ sym (ap (λ play. says (grown play b)) units)

has_cue : (plays : List Play) (job : ℕ) → ((1 ≤ job) × (job ≤ length plays)) ⊎ ((job ≡ 0) ⊎ (length plays < job))
has_cue plays job =
    ⊎_elim
    (λ (none : job < 1). inr (inl (omega arith)))
    (λ (some : 1 ≤ job). ⊎_elim (λ (past : length plays < job). inr (inr past)) (λ (few : job ≤ length plays). inl (some, few)) (cases_lt (length plays) job))
    (cases_lt job 1)

-- a request counts for its own job
counted_own : (plays : List Play) (job rate more : ℕ)
    → says (grown (play_of (with_play plays job (grown (play_of plays job) rate)) job) more) ≡ says (grown (play_of plays job) (rate + more))
counted_own plays job rate more =
    let own = play_of plays job in
    ⊎_elim
    (λ (cue : (1 ≤ job) × (job ≤ length plays)).
    ap (λ play. says (grown play more)) (play_of_same plays job (grown own rate) cue.0 cue.1) ∙ ap says (grown-twice own rate more))
    (λ (none : (job ≡ 0) ⊎ (length plays < job)).
    ap (λ ps. says (grown (play_of ps job) more)) (no_cue_no_play plays job (grown own rate) none) ∙ running-without_cue plays job more (rate + more) none)
    (has_cue plays job)

-- and for no other
counted : (plays : List Play) (r : Request) (after : List Play) (job more : ℕ) → Played plays r.job r.rate r.answer after
    → says (grown (play_of after job) more) ≡ says (grown (play_of plays job) (cond (eqb r.job job) r.rate 0 + more))
counted plays r after job more played =
    let now-played = ap (λ ps. says (grown (play_of ps job) more)) played.1 in
    now-played
    ∙ ⊎_elim
    (λ (same : r.job ≡ job). rw (eq-eqb r.job job same) (rw (sym same) (counted_own plays r.job r.rate more)))
    (λ (apart : r.job ≡ job → ⊥).
    rw (ne_eqb r.job job apart, zero-add more) (ap (λ play. says (grown play more)) (play_of_other plays job r.job (grown (play_of plays r.job) r.rate) apart)))
    (cases_eq r.job job)

pub finished_when_reached : (plays : List Play) → FinishedWhenReached plays
finished_when_reached plays [] r after turns =
    let alone : r.rate ≡ summed_rates r.job (r ∷ []) = rw (eq-eqb r.job r.job refl) (sym (add-zero r.rate)) in
    turns.1.0 ∙ ap (λ n. says (grown (play_of plays r.job) n)) alone
finished_when_reached plays (q ∷ past) r after turns =
    let between = turns.0 in
    finished_when_reached between past r after turns.2
    ∙ counted plays q between r.job (summed_rates r.job (past ++ r ∷ [])) turns.1
