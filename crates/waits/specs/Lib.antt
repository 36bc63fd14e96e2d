pub mod Rules
pub mod After
pub mod Cases
pub mod Laws
pub mod Ending
