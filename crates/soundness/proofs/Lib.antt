pub mod Loops
pub mod OrLoop
pub mod SetLoop
pub mod Distinct
pub mod PartLaws
pub mod Whole
