pub mod Member
pub mod Refusals
pub mod Abouts
pub mod Cases
