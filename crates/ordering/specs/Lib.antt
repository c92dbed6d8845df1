pub mod First
pub mod Lawful
