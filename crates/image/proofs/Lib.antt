pub mod Names
pub mod PartLaws
pub mod RowLaws
pub mod PlaceLaws
pub mod Round
pub mod Example
pub mod Chunks
