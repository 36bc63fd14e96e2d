pub mod Rules
pub mod Sound
pub mod Cases
pub mod Laws
pub mod Core
pub mod Held
