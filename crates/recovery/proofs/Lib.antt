pub mod ScanSteps
pub mod MarkLaws
