pub mod Search
pub mod Joined
pub mod Free
pub mod Clocks
pub mod Sets
pub mod Callers
pub mod Changes
pub mod RowLaws
