pub mod Lines
pub mod Kept
