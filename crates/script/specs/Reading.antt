-- How a script is read: what it holds, or the place of its first wrong or missing word.
use Rattle.std.specs.Prelude.{ℕ, ◌+◌, min, cond, List, [], ◌∷◌, ◌++◌, length, replicate, Some, None, Ok, Err, Option, Result, ◌==◌, nat_le}
use Rattle.words.specs.declared.Kind.TheVariants.{Deadline, Budget, Spent, End}
use Rattle.words.specs.Words.{is, payload}
use Rattle.words.specs.declared.fault.WordFault.{WordFault}
use Rattle.heading.specs.Heading.{Front, head}
use Rattle.calls.specs.declared.call.Call.{Call}
use Rattle.calls.specs.declared.call.Call.TheVariants.{Release, Tick}

-- What a script holds: the rates of its table, the calls in their order, and the words of the answer tape.
pub record Contents : Type 0 where
  pub rates : List ℕ
  pub calls : List Call
  pub tape : List ℕ

abbrev pub Reading : Type 0
Reading = Result Contents ℕ

-- The words from a place on are the tape, exactly as many as the end word counts: otherwise the first that is missing or
-- the first that is left over is wrong.
abbrev pub tape_from : ℕ → ℕ → List ℕ → List Call → List ℕ → Reading
tape_from place count rates calls tape =
    cond (length tape == count) (Ok (record { rates = rates; calls = calls; tape = tape })) (Err (place + min (length tape) count))

-- The words from a place in the calls on, one at a time, after the rates, the calls before with so many ticks among them,
-- and any deadline that waits for its budget.
abbrev pub calls_from : ℕ → List ℕ → List Call → ℕ → Option ℕ → List ℕ → Reading
calls_from place rates before ticks due [] = Err place
calls_from place rates before ticks None (w ∷ ws) =
    cond (is End w) (tape_from (place + 1) (payload w) rates before ws)
    (cond (is Spent w)
    (cond (nat_le (ticks + payload w) 1000000) (calls_from (place + 1) rates (before ++ replicate (payload w) Tick) (ticks + payload w) None ws) (Err place))
    (cond (is Deadline w) (calls_from (place + 1) rates before ticks (Some (payload w)) ws) (Err place)))
calls_from place rates before ticks (Some deadline) (w ∷ ws) =
    cond (is Budget w) (calls_from (place + 1) rates (before ++ (Release deadline (payload w) ∷ [])) ticks None ws) (Err place)

-- What is read behind the head: the calls, which begin at the first word that is no rate, the end and the tape.
abbrev pub behind_head : Result Front WordFault → Reading
behind_head (Ok front) = calls_from (1 + length front.rates) front.rates [] 0 None front.rest
behind_head (Err fault) = Err 0

-- The words of a whole script: the edition, the rates, the calls, the end and the tape.
abbrev pub reading : List ℕ → Reading
reading words = behind_head (head words)
