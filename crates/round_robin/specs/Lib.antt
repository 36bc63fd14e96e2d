pub mod Marks
pub mod Claim
