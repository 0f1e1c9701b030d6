pub mod OrderLaws
pub mod VersionsLaws
pub mod StreamLaws
pub mod ExportAnswers
