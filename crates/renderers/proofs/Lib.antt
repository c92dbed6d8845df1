pub mod Turns
pub mod Plays
pub mod Taking
pub mod Waits
pub mod Sums
