pub mod Lawful
pub mod Refusal
pub mod Judged
pub mod Table
pub mod Policy
