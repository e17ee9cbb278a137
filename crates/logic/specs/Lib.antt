pub mod Facts
pub mod Goals
pub mod Proofs
pub mod Satisfaction
pub mod Operator
pub mod Order
pub mod Branches
pub mod Rounds
