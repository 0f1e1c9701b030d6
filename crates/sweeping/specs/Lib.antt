pub mod Marks
pub mod Sifted
pub mod Order
pub mod Rows
