pub mod Vary
pub mod Marks
pub mod Combined
pub mod Cases
