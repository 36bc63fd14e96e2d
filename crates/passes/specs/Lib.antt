pub mod Wishes
pub mod Sweep
pub mod Rests
pub mod Laws
pub mod Wanted
pub mod Rows
