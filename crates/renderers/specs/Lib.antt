pub mod Requests
pub mod Tape
pub mod Sheet
pub mod Order
