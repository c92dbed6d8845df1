-- The reference run: the accepted jobs played at full speed, earliest deadline first, each for its whole budget.
use Rattle.std.specs.Prelude.{ℕ, ◌+◌, ◌-◌, min, cond, ◌&&◌, List, [], ◌∷◌, ◌++◌, Some, None, Option, ◌==◌, nat_lt}
use Rattle.cues.specs.Demand.{Job}

-- A call that the day accepted: a release with its deadline and budget, or a tick.
pub data Accepted : Type 0 where
  released : ℕ → ℕ → Accepted
  ticked : Accepted

-- A job in the reference run: what it is, the ticks that it has left, and its end once it is over.
pub record Row : Type 0 where
  pub job : Job
  pub left : ℕ
  pub end : Option ℕ

-- The clock, and the jobs in the order of their numbers: job n is the n-th from 1.
pub record Reference : Type 0 where
  pub clock : ℕ
  pub rows : List Row

abbrev pub fresh : Reference
fresh = record { clock = 0; rows = [] }

-- The smaller of a deadline and what was found so far.
abbrev pub sooner : ℕ → Option ℕ → ℕ
sooner d None = d
sooner d (Some e) = min d e

-- The earliest deadline of the jobs with ticks left, if there is one.
abbrev pub soonest : List Row → Option ℕ
soonest [] = None
soonest (r ∷ rs) = cond (nat_lt 0 r.left) (Some (sooner r.job.deadline (soonest rs))) (soonest rs)

-- One tick for a job: at 0 left it is over at the new clock.
abbrev pub served : ℕ → Row → Row
served after r = record { job = r.job; left = r.left - 1; end = cond (r.left == 1) (Some after) r.end }

-- One tick for the first job by number that has ticks left and is due at d.
abbrev pub serve : ℕ → ℕ → List Row → List Row
serve after d [] = []
serve after d (r ∷ rs) =
    cond (nat_lt 0 r.left && r.job.deadline == d) (served after r ∷ rs) (r ∷ serve after d rs)

abbrev pub serve_soonest : ℕ → Option ℕ → List Row → List Row
serve_soonest after None rs = rs
serve_soonest after (Some d) rs = serve after d rs

-- One accepted call.
abbrev pub step : Reference → Accepted → Reference
step s (released d b) =
    record {
      clock = s.clock;
      rows = s.rows ++ (record { job = record { release = s.clock; deadline = d; budget = b }; left = b; end = None } ∷ []);
    }
step s ticked = record { clock = s.clock + 1; rows = serve_soonest (s.clock + 1) (soonest s.rows) s.rows }

-- The reference run of a list of accepted calls, the earliest first.
abbrev pub run : Reference → List Accepted → Reference
run s [] = s
run s (c ∷ cs) = run (step s c) cs
