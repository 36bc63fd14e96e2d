pub mod Rounds
pub mod Ratio
pub mod Asked
pub mod OnlySlow
