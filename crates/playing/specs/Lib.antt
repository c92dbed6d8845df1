pub mod Played
pub mod Exchanges
pub mod Traces
pub mod Examples
