pub mod Claim
pub mod Agreed
