pub mod Example
pub mod LineLaws
pub mod PrintLaws
pub mod NoSweep
