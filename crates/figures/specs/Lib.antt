pub mod Claim
pub mod Counts
