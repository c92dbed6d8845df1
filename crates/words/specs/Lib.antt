pub mod Words
pub mod Fault
pub mod Bytes
