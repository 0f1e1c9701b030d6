pub mod SameLaws
pub mod JoinLaws
pub mod KeptLaws
pub mod PlainLaws
pub mod StopLaws
pub mod LinesLaws
