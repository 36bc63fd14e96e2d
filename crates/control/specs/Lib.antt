pub mod Speed
pub mod Outbox
pub mod Told
pub mod Names
