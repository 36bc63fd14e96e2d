pub mod Rates
pub mod Metrics
pub mod Report
pub mod Order
pub mod Sorted
pub mod Summary
