pub mod Added
pub mod Fill
pub mod Number
