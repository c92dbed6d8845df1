pub mod ReferenceRun
pub mod Deadlines
pub mod SlowRun
pub mod NeverBehind
pub mod TwoRuns
