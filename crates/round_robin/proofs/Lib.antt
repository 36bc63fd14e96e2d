pub mod Machine
pub mod Covers
pub mod Reading
pub mod Runs
pub mod Steps
pub mod Theorem
