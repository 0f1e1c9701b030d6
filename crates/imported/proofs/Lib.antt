pub mod InStore
pub mod Imported
