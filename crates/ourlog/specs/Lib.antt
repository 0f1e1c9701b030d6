pub mod OurLog
