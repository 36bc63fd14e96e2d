pub mod Reading
pub mod Laws
pub mod Walk
pub mod Cases
pub mod Append
