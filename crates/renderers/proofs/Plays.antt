-- The play of a job without a cue.
use Rattle.std.proofs.Common.{◌≡◌, ℕ, ◌-◌, ◌<◌, true, false, cond, leb, ◌⊎◌, List, length, get_or, set, refl, inl, inr, arith}
use Rattle.std.proofs.lemmas.List.{get_or_past, set_past}
use Rattle.renderers.specs.declared.play.Play.{Play}
use Rattle.renderers.specs.Sheet.{fresh_play, play_of, with_play}

-- such a job has no units
pub no_cue_no_units : (plays : List Play) (job : ℕ) → (job ≡ 0) ⊎ (length plays < job) → play_of plays job ≡ fresh_play 0
no_cue_no_units plays job (inl none) = rw none
no_cue_no_units plays job (inr past) =
    elim (leb 1 job) as (λ b. cond b (get_or plays (job - 1) (fresh_play 0)) (fresh_play 0) ≡ fresh_play 0) [ true ↦ get_or_past plays (job - 1) (fresh_play 0) (omega arith) | false ↦ refl ]

-- and no play that could be replaced
pub no_cue_no_play : (plays : List Play) (job : ℕ) (play : Play) → (job ≡ 0) ⊎ (length plays < job) → with_play plays job play ≡ plays
no_cue_no_play plays job play (inl none) = rw none
no_cue_no_play plays job play (inr past) =
    elim (leb 1 job) as (λ b. cond b (set plays (job - 1) play) plays ≡ plays) [ true ↦ set_past plays (job - 1) play (omega arith) | false ↦ refl ]
