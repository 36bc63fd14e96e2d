pub mod Rules
pub mod Laws
pub mod Padding
pub mod Bound
