pub mod Groups
pub mod Steps
pub mod Gather
pub mod Cases
pub mod Left
pub mod Whole
