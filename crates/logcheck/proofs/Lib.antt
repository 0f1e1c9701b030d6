pub mod ParsedLaws
pub mod JudgedLaws
pub mod KeptLaws
pub mod BlockLaws
pub mod CheckedLaws
pub mod EndLaws
pub mod VerdictLaws
