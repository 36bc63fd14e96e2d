pub mod Response
pub mod Theorem
