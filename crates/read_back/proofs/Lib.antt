pub mod CutTheorem
pub mod TripTheorem
pub mod Witness
