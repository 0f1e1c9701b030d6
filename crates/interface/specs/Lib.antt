pub mod Exchange
pub mod Verdicts
pub mod Transfers
pub mod Parts
