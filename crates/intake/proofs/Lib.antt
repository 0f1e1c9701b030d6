pub mod BlockLaws
pub mod RunLaws
pub mod ReadsLaws
pub mod Mach
