pub mod Parts
pub mod StepRows
pub mod GetRows
pub mod CollectRows
