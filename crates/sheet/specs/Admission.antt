-- When a sheet is admitted, and what is said of one that is not.
use Rattle.std.specs.Prelude.{◌≡◌, ◌-◌, ◌<◌, Ok, Err, Result}
use Rattle.cues.specs.Demand.{demand, Feasible}
use Rattle.cues.specs.Loading.{Loading}
use Rattle.cues.specs.declared.load.Load.{Load}
use Rattle.faults.specs.declared.ReadError.{ReadError}
use Rattle.faults.specs.declared.ReadError.TheVariants.{Fault, NoMemory}
use Rattle.faults.specs.declared.SheetFault.{SheetFault}
use Rattle.faults.specs.declared.SheetFault.TheVariants.{BadWord, BadCue, BadTable, TooManyCues, Overloaded}
use Rattle.sheet.specs.declared.read.ReadSheet.{ReadSheet}
use Rattle.sheet.specs.declared.admitted.AdmittedSheet.{AdmittedSheet}
use Rattle.sheet.specs.declared.admitted.NotAdmitted.{NotAdmitted}
use Rattle.sheet.specs.Sheets.{jobs, end_place}

-- The interval of this load demands more ticks than it has, and is the one of the loading factor.
pub record TooMuch (sheet : ReadSheet) (load : Load) : Type 0 where
  pub factor : Loading (jobs sheet) load.demand load.length load.start load.end
  pub above : load.length < load.demand
  pub rising : load.start < load.end
  pub more : load.end - load.start < demand (jobs sheet) load.start load.end

-- The one fault of a sheet that is not admitted: it tells that interval, and the place of the end word.
abbrev pub OverloadedBy : ReadSheet → SheetFault → Type 0
OverloadedBy sheet (BadWord place fault) = ⊥
OverloadedBy sheet (BadCue place fault) = ⊥
OverloadedBy sheet (BadTable refusal) = ⊥
OverloadedBy sheet (TooManyCues place) = ⊥
OverloadedBy sheet (Overloaded load place) = (place ≡ end_place sheet) × TooMuch sheet load

-- Why a sheet is not admitted: by that fault, or for want of memory, which says nothing of it.
abbrev pub NotAdmittedFor : ReadSheet → ReadError → Type 0
NotAdmittedFor sheet (Fault fault) = OverloadedBy sheet fault
NotAdmittedFor sheet NoMemory = Unit {0}

-- No interval demands more ticks than it has, or the sheet is not admitted for this.
abbrev pub Loaded : ReadSheet → Result Unit ReadError → Type 0
Loaded sheet (Ok u) = Feasible (jobs sheet)
Loaded sheet (Err why) = NotAdmittedFor sheet why

-- A sheet is admitted as it was where no interval demands more ticks than it has; otherwise, and for want of memory, it
-- comes back as it was.
abbrev pub Admission : ReadSheet → Result AdmittedSheet NotAdmitted → Type 0
Admission sheet (Ok admitted) = (admitted.sheet ≡ sheet) × Feasible (jobs sheet)
Admission sheet (Err refused) = (refused.sheet ≡ sheet) × NotAdmittedFor sheet refused.why
