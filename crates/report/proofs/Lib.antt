-- The laws of texts in a buffer, which the crates above cite too.
pub mod Writing
pub mod Spelling
pub mod Counting
pub mod Puts
pub mod Examples
