pub mod Pairs
pub mod Laws
pub mod Room
pub mod Turn
