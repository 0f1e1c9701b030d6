pub mod Judged
pub mod Checking
pub mod Parts
