pub mod Calls
pub mod Theorem
pub mod Witness
