pub mod Round
pub mod Earns
pub mod Ends
