pub mod WordParts
mod Whole
