pub mod Good
pub mod Settles
pub mod ReadOff
pub mod Theorem
