pub mod Choosing
pub mod Columns
