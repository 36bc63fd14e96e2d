pub mod Rules
pub mod Cases
pub mod Laws
pub mod Turns
pub mod Evaluation
pub mod Storing
