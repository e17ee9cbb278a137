pub mod Cases
pub mod Frame
pub mod Lines
pub mod Parts
