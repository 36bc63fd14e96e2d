pub mod State
pub mod Calls
pub mod Cases
pub mod Core
