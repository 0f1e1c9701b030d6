pub mod Layout
pub mod Images
