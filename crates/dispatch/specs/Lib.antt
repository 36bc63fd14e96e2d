pub mod Dispatch
pub mod Laws
