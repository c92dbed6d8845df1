pub mod Writing
pub mod Bests
pub mod Intervals
pub mod Greatest
pub mod Deadlines
pub mod Factor
pub mod Admission
