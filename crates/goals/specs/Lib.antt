pub mod Codes
pub mod Parsing
pub mod Limits
pub mod Readings
pub mod Sets
pub mod Answers
pub mod Printing
pub mod Views
