-- What the reader finds part by part, said by what the script reads as from there on.
use Rattle.std.specs.Prelude.{◌≡◌, ℕ, ◌+◌, ◌≤◌, List, [], ◌∷◌, ◌++◌, length, replicate, None, Ok, Err, vec_items, Result, Vec}
use Rattle.std.specs.declared.alloc.Global.{Global}
use Rattle.heading.specs.declared.HeadError.{HeadError}
use Rattle.heading.specs.declared.HeadError.TheVariants.{FirstWord, NoMemory as no_head_memory}
use Rattle.calls.specs.declared.call.Call.{Call}
use Rattle.calls.specs.declared.call.Call.TheVariants.{Release, Tick}
use Rattle.script.specs.declared.ScriptError.{ScriptError}
use Rattle.script.specs.declared.ScriptError.TheVariants.{WrongWord, NoMemory}
use Rattle.script.specs.declared.Part.{Part}
use Rattle.script.specs.declared.Part.TheVariants.{Release as a_release, Ticks, End}
use Rattle.script.specs.Reading.{tape_from, calls_from}

-- The next part of the calls, and the words behind it, the first of them at the next place.
abbrev pub After : ℕ → ℕ → List ℕ → Part → ℕ → List ℕ → Type 0
After place ticks ws (a_release deadline budget) next rest =
    (2 + length rest ≡ length ws)
    × ((rates : List ℕ) (before : List Call) →
    calls_from place rates before ticks None ws ≡ calls_from next rates (before ++ (Release deadline budget ∷ [])) ticks None rest)
After place ticks ws (Ticks count) next rest =
    (1 + length rest ≡ length ws)
    × (ticks + count ≤ 1000000)
    × ((rates : List ℕ) (before : List Call) →
    calls_from place rates before ticks None ws ≡ calls_from next rates (before ++ replicate count Tick) (ticks + count) None rest)
After place ticks ws (End count) next rest =
    (1 + length rest ≡ length ws)
    × ((rates : List ℕ) (before : List Call) → calls_from place rates before ticks None ws ≡ tape_from next count rates before rest)

-- No part stands here: this is the first word that is wrong or missing. Want of memory says nothing of the words.
abbrev pub WrongAt : ℕ → ℕ → List ℕ → ScriptError → Type 0
WrongAt place ticks ws (WrongWord at) = (rates : List ℕ) (before : List Call) → calls_from place rates before ticks None ws ≡ Err at
WrongAt place ticks ws NoMemory = Unit {0}

-- The words are the tape.
abbrev pub Tape : ℕ → ℕ → List ℕ → Result (Vec ℕ Global) ScriptError → Type 0
Tape place count ws (Ok tape) =
    (rates : List ℕ) (calls : List Call) →
    tape_from place count rates calls ws ≡ Ok (record { rates = rates; calls = calls; tape = vec_items tape })
Tape place count ws (Err (WrongWord at)) = (rates : List ℕ) (calls : List Call) → tape_from place count rates calls ws ≡ Err at
Tape place count ws (Err NoMemory) = Unit {0}

-- The words are the calls, the end and the tape.
abbrev pub Calls : ℕ → List ℕ → Result (Vec Call Global × Vec ℕ Global) ScriptError → Type 0
Calls place ws (Ok p) =
    (rates : List ℕ) →
    calls_from place rates [] 0 None ws ≡ Ok (record { rates = rates; calls = vec_items p.0; tape = vec_items p.1 })
Calls place ws (Err (WrongWord at)) = (rates : List ℕ) → calls_from place rates [] 0 None ws ≡ Err at
Calls place ws (Err NoMemory) = Unit {0}

-- A script without a head has a wrong or missing first word; want of memory says nothing of the words.
abbrev pub not_headed : HeadError → ScriptError
not_headed (FirstWord fault) = WrongWord 0
not_headed no_head_memory = NoMemory
