pub mod SlotMade
pub mod MoveLoop
pub mod MoveAnswers
