-- The faults of a sheet as they are reported: for each case its layer, its number, its place and what comes back with it.
use Rattle.std.specs.Prelude.{ℕ, List, ◌++◌, codes, decimal, Ok, Err, Result, alloc_error}
use Rattle.std.specs.declared.alloc.AllocError.{AllocError}
use Rattle.cues.specs.Refusals.{number_of as refusal_number, value_of as refusal_value}
use Rattle.rates.specs.Refusal.{number_of, value_of}
use Rattle.words.specs.Fault.{word_number}
use Rattle.faults.specs.declared.Layer.{Layer}
use Rattle.faults.specs.declared.Layer.TheVariants.{Word, Cue, Sheet}
use Rattle.faults.specs.declared.Returned.{Returned}
use Rattle.faults.specs.declared.Returned.TheVariants.{Value, Interval}
use Rattle.faults.specs.declared.CueFault.{CueFault}
use Rattle.faults.specs.declared.CueFault.TheVariants.{BadWord as cue_word, Refused}
use Rattle.faults.specs.declared.ReadError.{ReadError}
use Rattle.faults.specs.declared.ReadError.TheVariants.{Fault, NoMemory}
use Rattle.faults.specs.declared.SheetFault.{SheetFault}
use Rattle.faults.specs.declared.SheetFault.TheVariants.{
  BadWord as sheet_word,
  BadCue,
  BadTable,
  TooManyCues,
  Overloaded,
}

-- A cue's own refusals have their own numbers.
abbrev pub cue_number : CueFault → ℕ
cue_number (cue_word place fault) = word_number fault
cue_number (Refused refusal) = refusal_number refusal

-- The number of each fault.
abbrev pub fault_number : SheetFault → ℕ
fault_number (sheet_word place fault) = word_number fault
fault_number (BadCue place fault) = cue_number fault
fault_number (BadTable refusal) = number_of refusal
fault_number (TooManyCues place) = 11
fault_number (Overloaded load place) = 13

-- The layer of a fault is the one where it came about.
abbrev pub cue_layer : CueFault → Layer
cue_layer (cue_word place fault) = Word
cue_layer (Refused refusal) = Cue

abbrev pub fault_layer : SheetFault → Layer
fault_layer (sheet_word place fault) = Word
fault_layer (BadCue place fault) = cue_layer fault
fault_layer (BadTable refusal) = Sheet
fault_layer (TooManyCues place) = Sheet
fault_layer (Overloaded load place) = Sheet

-- The place of a fault, a word's place from 0: a table's and a cue's number stand at its first word.
abbrev pub cue_place : ℕ → CueFault → ℕ
cue_place first (cue_word place fault) = place
cue_place first (Refused refusal) = first

abbrev pub fault_place : SheetFault → ℕ
fault_place (sheet_word place fault) = place
fault_place (BadCue place fault) = cue_place place fault
fault_place (BadTable refusal) = 1
fault_place (TooManyCues place) = place
fault_place (Overloaded load place) = place

-- What comes back with a cue's fault: the place of a wrong word or the count of words that end early, or the value of the
-- refusal.
abbrev pub cue_value : CueFault → ℕ
cue_value (cue_word place fault) = place
cue_value (Refused refusal) = refusal_value refusal

-- What comes back with each fault, in the case of too much demand the whole interval.
abbrev pub fault_returns : SheetFault → Returned
fault_returns (sheet_word place fault) = Value place
fault_returns (BadCue place fault) = Value (cue_value fault)
fault_returns (BadTable refusal) = Value (value_of refusal)
fault_returns (TooManyCues place) = Value 1024
fault_returns (Overloaded load place) = Interval load

-- The fault that an error tells, unless it was memory that was wanting.
abbrev pub fault_of : ReadError → Result SheetFault AllocError
fault_of (Fault fault) = Ok fault
fault_of NoMemory = Err alloc_error

-- The name of a layer.
abbrev pub layer_name : Layer → List ℕ
layer_name Word = codes "word"
layer_name Cue = codes "cue"
layer_name Sheet = codes "sheet"

-- A fault as it is shown: its layer, its number and its place, with one space between.
abbrev pub fault_line : SheetFault → List ℕ
fault_line f = layer_name (fault_layer f) ++ (codes " " ++ (decimal (fault_number f) ++ (codes " " ++ decimal (fault_place f))))
