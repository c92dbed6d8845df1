pub mod Reading
pub mod Parts
pub mod Sheets
pub mod Admission
pub mod SheetWords
