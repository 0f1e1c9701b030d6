pub mod ListSteps
pub mod ByteLaws
pub mod FieldLaws
pub mod SlotSteps
pub mod WriteLoop
