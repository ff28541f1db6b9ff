pub mod Dates
pub mod Lifetime
pub mod Age
pub mod Cases
