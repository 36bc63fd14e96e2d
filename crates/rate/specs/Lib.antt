pub mod Rate
pub mod Code
pub mod Within
pub mod Rounding
pub mod Operations
pub mod Bound
pub mod Order
pub mod Hits
