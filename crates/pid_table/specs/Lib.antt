pub mod Entry
pub mod Cases
pub mod Laws
pub mod Rows
