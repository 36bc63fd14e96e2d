pub mod Short
pub mod Texts
