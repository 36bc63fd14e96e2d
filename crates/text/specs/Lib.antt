pub mod Cut
pub mod Put
pub mod Tokens
pub mod Joined
