pub mod Blank
pub mod Defaults
pub mod InForce
