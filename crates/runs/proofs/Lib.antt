mod SortedRun
mod Sorting
mod Stack
mod ChosenFits
mod StackTick
mod BothRuns
pub mod SlowLaw
pub mod SlowSound
mod DemandSums
mod ReferenceTick
mod ReferenceRows
mod ReferenceBacklog
mod ReferenceWork
pub mod ReferenceDemand
