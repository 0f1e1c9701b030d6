pub mod Fields
pub mod SlotView
