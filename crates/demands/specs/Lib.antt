pub mod Facts
pub mod Statements
pub mod Idle
