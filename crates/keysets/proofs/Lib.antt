pub mod SetLaws
pub mod RowLaws
pub mod MadeLaws
