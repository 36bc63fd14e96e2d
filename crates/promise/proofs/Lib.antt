pub mod Theorem
pub mod Witness
