pub mod Items
pub mod Tokens
