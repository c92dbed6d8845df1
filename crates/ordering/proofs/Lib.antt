pub mod Lawful
pub mod Orders
