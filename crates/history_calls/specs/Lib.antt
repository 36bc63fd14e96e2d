pub mod Bringing
pub mod Plain
pub mod Timed
