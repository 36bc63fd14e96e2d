pub mod Calls
pub mod Tells
pub mod Cases
pub mod Names
pub mod Laws
pub mod Reported
pub mod Rows
pub mod Few
