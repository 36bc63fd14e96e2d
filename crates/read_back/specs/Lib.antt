pub mod Cut
pub mod Trip
