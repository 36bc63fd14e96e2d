pub mod Send
pub mod Settle
