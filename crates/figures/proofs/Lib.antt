pub mod Reports
pub mod Theorem
pub mod Witness
