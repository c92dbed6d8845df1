-- What a renderer has heard, one request at a time.
use Rattle.std.specs.Prelude.{ℕ, ◌+◌, min}
use Rattle.renderers.specs.declared.answer.Answer.{Answer}
use Rattle.renderers.specs.declared.answer.Answer.TheVariants.{Running}
use Rattle.renderers.specs.declared.heard.Heard.{Heard}

-- Before the first request the latest pair is (0, 0), and the answer running.
abbrev pub fresh : Heard
fresh = record { requests = 0; job = 0; rate = 0; answer = Running }

-- One request more, counted up to 4,294,967,295, is the latest.
abbrev pub heard : Heard → ℕ → ℕ → Answer → Heard
heard before job rate answer =
    record { requests = min (before.requests + 1) 4294967295; job = job; rate = rate; answer = answer }

-- The latest request, a job and its rate, and its answer.
abbrev pub latest : Heard → ℕ × ℕ × Answer
latest past = (past.job, past.rate, past.answer)
