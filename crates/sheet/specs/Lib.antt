pub mod Words
pub mod Lines
pub mod Commands
pub mod Sheets
pub mod Parts
