pub mod Lines
pub mod Findings
pub mod Verdicts
pub mod Logs
pub mod Claims
pub mod Written
pub mod Printed
pub mod Parts
