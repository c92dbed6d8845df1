pub mod Reading
pub mod Parts
pub mod Scripts
pub mod ScriptWords
