-- The laws of frames and lines.
pub mod Numbers
pub mod Lengths
