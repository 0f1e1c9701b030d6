pub mod RefusedLaws
pub mod ByteLaws
pub mod RunLaws
pub mod LengthLaws
pub mod RefusedRequests
pub mod TwoRuns
pub mod Example
