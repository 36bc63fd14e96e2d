pub mod Rules
pub mod Laws
pub mod Pigeons
pub mod Members
pub mod Robin
