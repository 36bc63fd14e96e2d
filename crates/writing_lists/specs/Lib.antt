pub mod Parted
pub mod Short
