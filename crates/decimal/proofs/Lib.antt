pub mod FieldLaws
pub mod ReadLaws
pub mod DigitLaws
pub mod RoundTrip
pub mod DigitTable
pub mod WrittenLaws
