pub mod Heading
pub mod Heads
