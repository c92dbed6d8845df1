-- How the cues of a list are played.
use Rattle.std.specs.Prelude.{◌≡◌, ℕ, ◌+◌, ◌-◌, min, cond, ◌&&◌, List, [], ◌∷◌, ◌++◌, ◌==◌, nat_le, slice_index_or, slice_set}
use Rattle.renderers.specs.declared.answer.Answer.{Answer}
use Rattle.renderers.specs.declared.answer.Answer.TheVariants.{Running, Finished}
use Rattle.renderers.specs.declared.play.Play.{Play}

-- A cue of which nothing was played.
abbrev pub fresh_play : ℕ → Play
fresh_play actual = record { actual = actual; summed = 0 }

-- A tick more at a rate: the sum of the rates is held at 268,435,455.
abbrev pub grown : Play → ℕ → Play
grown play rate = record { actual = play.actual; summed = min (play.summed + rate) 268435455 }

-- Finished once the summed rates reach the actual units, never where these are 0.
abbrev pub says : Play → Answer
says play = cond (nat_le 1 play.actual && nat_le play.actual play.summed) Finished Running

-- The play of a job: job n has the n-th, and a job without a cue is as one that has no units.
abbrev pub play_of : List Play → ℕ → Play
play_of plays job = cond (nat_le 1 job) (slice_index_or plays (job - 1) (fresh_play 0)) (fresh_play 0)

-- The plays with that of a job replaced; a job without a cue has none to replace.
abbrev pub with_play : List Play → ℕ → Play → List Play
with_play plays job play = cond (nat_le 1 job) (slice_set plays (job - 1) play) plays

-- One request: the job's own play grows by the rate and says the answer, and every other stays as it was.
abbrev pub Played : List Play → ℕ → ℕ → Answer → List Play → Type 0
Played before job rate answer after =
    (answer ≡ says (grown (play_of before job) rate)) × (after ≡ with_play before job (grown (play_of before job) rate))

-- One request and what was answered.
pub record Request : Type 0 where
  pub job : ℕ
  pub rate : ℕ
  pub answer : Answer

-- Requests one after another, with the plays before the first and after the last.
abbrev pub PlayedInTurn : List Play → List Request → List Play → Type 0
PlayedInTurn before [] after = after ≡ before
PlayedInTurn before (r ∷ rs) after =
    (between : List Play) × Played before r.job r.rate r.answer between × PlayedInTurn between rs after

-- The summed rates of a job over some requests.
abbrev pub summed_rates : ℕ → List Request → ℕ
summed_rates job [] = 0
summed_rates job (r ∷ rs) = cond (r.job == job) r.rate 0 + summed_rates job rs

-- However many requests there are, each is answered by the summed rates of its job up to then, as if they had come at once.
abbrev pub FinishedWhenReached : List Play → Type 0
FinishedWhenReached plays =
    (past : List Request) (r : Request) (after : List Play) → PlayedInTurn plays (past ++ r ∷ []) after
    → r.answer ≡ says (grown (play_of plays r.job) (summed_rates r.job (past ++ r ∷ [])))
