pub mod Claim
pub mod Places
pub mod Seen
pub mod Desk
pub mod Handed
pub mod Witness
