pub mod Lists
pub mod Keeps
pub mod Rounds
pub mod Ratio
pub mod Counts
pub mod Asked
pub mod Single
pub mod OnlySlow
