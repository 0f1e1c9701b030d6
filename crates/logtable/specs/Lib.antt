pub mod Tables
pub mod Findings
pub mod Parts
pub mod Holds
