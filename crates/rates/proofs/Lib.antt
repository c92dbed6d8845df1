pub mod FirstPlace
pub mod Tables
pub mod Levels
