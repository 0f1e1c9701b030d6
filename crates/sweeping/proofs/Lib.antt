pub mod MarkLoop
pub mod SiftLaws
pub mod ToCollect
pub mod SweepLoop
pub mod SweepRows
