pub mod Streams
pub mod Inverse
pub mod Exports
pub mod Imports
pub mod Claims
pub mod Parts
