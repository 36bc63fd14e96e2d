pub mod Numbers
pub mod Next
pub mod Result
pub mod Cases
pub mod Core
