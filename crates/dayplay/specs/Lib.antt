pub mod Lines
pub mod Preparing
pub mod Rehearsing
